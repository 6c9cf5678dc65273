pub mod Wire
pub mod Peers
pub mod Turn
pub mod Serving
