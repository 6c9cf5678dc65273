mod KeptLemmas
mod ServingLemmas
mod ActingLemmas
