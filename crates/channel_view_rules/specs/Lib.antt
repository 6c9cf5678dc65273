pub mod Lent
pub mod ViewRules
