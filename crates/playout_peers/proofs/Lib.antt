pub mod PartLemmas
pub mod OpenLemmas
pub mod TurnLemmas
pub mod ServingLemmas
