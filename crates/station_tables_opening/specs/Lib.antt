pub mod Opens
pub mod Opening
pub mod Found
pub mod Left
pub mod Parts
