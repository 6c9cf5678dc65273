mod HeadLemmas
mod FieldLemmas
pub mod PieceLemmas
mod RouteLemmas
mod TableLemmas
