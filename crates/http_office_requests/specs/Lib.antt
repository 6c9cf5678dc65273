pub mod Limits
pub mod Piece
pub mod Request
pub mod FoundPiece
pub mod Found
