pub mod Message
pub mod Run
pub mod Stream
pub mod Serving
pub mod Turn
pub mod Alone
pub mod Again
