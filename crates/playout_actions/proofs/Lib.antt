mod PlanLemmas
mod OfficeLemmas
