pub mod LengthLemmas
pub mod MatchLemmas
