mod NumberLemmas
pub mod DayPlaceLemmas
pub mod GrantPlaceLemmas
pub mod OrderLemmas
pub mod LabelLemmas
