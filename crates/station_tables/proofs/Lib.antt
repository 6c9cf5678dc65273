pub mod KeptLemmas
