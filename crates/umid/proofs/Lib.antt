pub mod UmidLemmas
pub mod ReadingLemmas
