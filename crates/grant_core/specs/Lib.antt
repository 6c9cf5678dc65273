pub mod ClipRef
pub mod Offering
pub mod Asked
pub mod Grant
pub mod Command
