pub mod Track
pub mod Shown
pub mod Status
pub mod Runs
pub mod Layers
pub mod Lines
