mod OfferLemmas
mod OrderLemmas
mod FindLemmas
mod LentLemmas
mod CopyLemmas
pub mod OwnGrantLemmas
pub mod RuleLemmas
pub mod CommandLemmas
