mod MessageLemmas
pub mod RunLemmas
pub mod StreamLemmas
mod ServeLemmas
mod AloneLemmas
mod AgainLemmas
