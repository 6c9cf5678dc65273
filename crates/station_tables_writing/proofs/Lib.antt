pub mod WriteLemmas
pub mod AiringChangeLemmas
pub mod PutLemmas
pub mod DayWriteLemmas
pub mod DayChangeLemmas
pub mod ItemLemmas
pub mod FromLemmas
pub mod StandLemmas
pub mod ChangeLemmas
mod PlanLemmas
mod TakenLemmas
mod MakeLemmas
mod VersionLemmas
mod AddLemmas
mod MigrationLemmas
mod FreeLemmas
