pub mod Fault
pub mod Limits
pub mod Plan
pub mod Refusal
