pub mod PlanLemmas
mod TextLemmas
