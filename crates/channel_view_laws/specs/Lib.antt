pub mod Requests
pub mod Runs
pub mod Ran
pub mod Again
pub mod Parts
pub mod Revisions
