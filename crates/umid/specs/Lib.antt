pub mod BasicUmid
pub mod Fault
