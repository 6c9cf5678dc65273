pub mod Known
pub mod Vaults
pub mod AtHand
pub mod Counted
