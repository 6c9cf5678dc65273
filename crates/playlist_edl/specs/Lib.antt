pub mod Importing
pub mod Exporting
