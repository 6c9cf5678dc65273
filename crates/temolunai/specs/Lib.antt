pub mod Numbers
pub mod Rooms
pub mod Labels
pub mod Ranges
pub mod Umids
pub mod Texts
pub mod Lists
pub mod Writing
