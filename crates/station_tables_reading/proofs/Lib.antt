pub mod DayLineLemmas
pub mod DayPageLemmas
pub mod DayStepLemmas
pub mod LentLemmas
pub mod PageTextLemmas
pub mod SeenLemmas
pub mod ThenLemmas
pub mod VaultLemmas
