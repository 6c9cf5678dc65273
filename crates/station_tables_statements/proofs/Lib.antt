pub mod ClipLemmas
pub mod OfferLemmas
pub mod AgreeLemmas
pub mod MakeLemmas
pub mod ViewLemmas
pub mod LookupLemmas
pub mod PageLemmas
pub mod AddLemmas
pub mod FitLemmas
pub mod DayFitLemmas
pub mod AiredFitLemmas
pub mod StatementLemmas
pub mod SpanLemmas
pub mod FirstLemmas
pub mod AskedLemmas
pub mod AiringSeenLemmas
mod SlotLemmas
pub mod SameLemmas
pub mod LookLemmas
pub mod DayLookLemmas
pub mod StandLemmas
pub mod WindowLemmas
pub mod FoundLemmas
pub mod PartTexts
mod CountLemmas
pub mod ByChannel
