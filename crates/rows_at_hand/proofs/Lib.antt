pub mod KnownLemmas
mod LatestLemmas
pub mod VaultLemmas
pub mod AtHandLemmas
pub mod CountedLemmas
mod PlaceLemmas
