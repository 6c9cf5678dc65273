pub mod LenderLemmas
pub mod RunLemmas
pub mod ServingLemmas
pub mod ServedLemmas
mod AgainOwnLemmas
mod PaintedLemmas
mod AgainReviseLemmas
mod TakenBackLemmas
mod AgainDayLemmas
mod AgainAiringLemmas
pub mod AgainLemmas
pub mod PartTableLemmas
pub mod PartViewLemmas
mod PartRuleLemmas
mod PartChangeLemmas
mod PartLendLemmas
pub mod PartLemmas
