pub mod Lent
pub mod Lines
pub mod DayLines
pub mod Vaults
