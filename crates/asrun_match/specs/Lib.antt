pub mod Limits
pub mod Reel
pub mod Aired
pub mod Joined
pub mod Rows
pub mod Batches
pub mod Status
pub mod Runs
