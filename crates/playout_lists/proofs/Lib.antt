pub mod NameLemmas
mod CountLemmas
pub mod TellingLemmas
mod FileLemmas
