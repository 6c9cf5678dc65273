-- `rows_in_order`: the rows of a plan, by number.
use Rattle.std.proofs.Common.{rules}
use Rattle.std.proofs.lemmas.List.Sorted.{answers_always}
use Rattle.station_tables_writing.proofs.PlanLemmas.{sorted_plan}
use Rattle.station_tables_writing.proofs.founding.rows_in_order.Goals as goal

pub returns : goal.returns
returns c =
    sorted_plan c.args.plan.now c.sort_unstable_by_key.new.self.items c.requires (search rules)
    (c.sort_unstable_by_key.ensures.sorted (λ p. p.ch) (answers_always _ _ _ (λ f a r f' k. search rules)))
