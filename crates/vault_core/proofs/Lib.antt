mod ApartLemmas
pub mod ReadingLemmas
mod AskedLemmas
pub mod AlterLemmas
pub mod RuleLemmas
pub mod ClipRuleLemmas
pub mod OfferRuleLemmas
mod ClipLemmas
pub mod NumberLemmas
pub mod PutLemmas
pub mod AgainLemmas
pub mod CommandLemmas
