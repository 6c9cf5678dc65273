pub mod Json
pub mod Csv
