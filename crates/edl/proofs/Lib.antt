pub mod TextLemmas
pub mod FieldLemmas
pub mod WordLemmas
pub mod NotesLemmas
pub mod ProgressLemmas
pub mod WriteLemmas
pub mod OrderLemmas
mod PlaceLemmas
pub mod MeaningLemmas
pub mod WrittenLines
pub mod NumberLemmas
pub mod WrittenFields
pub mod WrittenEvents
pub mod WrittenLaw
pub mod EqualLemmas
