pub mod MixLemmas
pub mod ImportLemmas
pub mod ExportLemmas
