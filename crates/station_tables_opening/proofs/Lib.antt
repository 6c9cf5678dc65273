pub mod OpenLemmas
pub mod StopLemmas
mod AiringOpenLemmas
mod PartLemmas
pub mod FindLemmas
