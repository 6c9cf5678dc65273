pub mod Counted
pub mod Days
pub mod Tallies
pub mod Readings
pub mod Divided
mod DecimalLemmas
pub mod RateLemmas
pub mod DigitLemmas
