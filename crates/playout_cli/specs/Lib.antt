pub mod Kept
pub mod Refusing
pub mod Serving
pub mod Acting
pub mod Vaults
