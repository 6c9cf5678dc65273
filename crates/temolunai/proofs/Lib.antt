mod Digits
pub mod LabelLemmas
pub mod TextLemmas
pub mod ListLemmas
