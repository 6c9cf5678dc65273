pub mod BisectLemmas
pub mod PlaceLemmas
pub mod AiringWalkLemmas
mod ViewRuleLemmas
mod LentLemmas
