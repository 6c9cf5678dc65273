pub mod RunLemmas
pub mod PieceLemmas
mod StepLemmas
pub mod AheadLemmas
pub mod SweepLemmas
pub mod DeterminedLemmas
pub mod AiringLemmas
pub mod BatchLemmas
pub mod FieldLemmas
pub mod RecordLemmas
pub mod KeptLemmas
pub mod TwiceLemmas
pub mod WeaveLemmas
