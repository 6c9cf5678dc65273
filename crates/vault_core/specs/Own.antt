-- Part of the promise: the own rows of one channel.
use Rattle.std.specs.Prelude.{ℕ, true, List, [], ◌∷◌, ◌++◌, ◌==◌, Option, Result, Ok, Err}
use Rattle.channel_plan.specs.declared.plan.PlanRow.{PlanRow}
use Rattle.vault_core.specs.declared.tape.Tape.{Tape}
use Rattle.vault_core.specs.declared.clip.Clip.{Clip}
use Rattle.vault_core.specs.declared.offer.Offer.{Offer}
use Rattle.channel_plan.specs.declared.refusal.Refusal.{Refusal}
use Rattle.vault_core.specs.Questions.{Questions, listed, alter}

-- as lists, each in the order of its numbers
pub record Own : Type 0 where
  pub plan : PlanRow
  pub tapes : List Tape
  pub clips : List Clip
  pub offers : List Offer

-- what a command may ask of them
pub record OwnSeen : Type 0 where
  pub plan : PlanRow
  pub tapes : Questions Tape
  pub clips : Questions Clip
  pub offers : Questions Offer

-- of the lists by themselves
abbrev pub own_seen : Own → OwnSeen
own_seen own = record {
  plan = own.plan;
  tapes = listed own.tapes;
  clips = listed own.clips;
  offers = listed own.offers;
}

-- with one tape more
abbrev pub with_tape : Own → Tape → Own
with_tape own t = record own { tapes = own.tapes ++ t ∷ [] }

-- with tape n in this slot, or out
abbrev pub with_slot : ℕ → Option ℕ → Own → Own
with_slot n slot own = record own { tapes = alter (λ t. t.n == n) (λ t. record t { slot = slot }) own.tapes }

-- with a tape where a call has put it; a refusal moves none
abbrev pub with_moved : Result Tape Refusal → Own → Own
with_moved (Ok t) own = with_slot t.n t.slot own
with_moved (Err e) own = own

-- with one clip more
abbrev pub with_clip : Own → Clip → Own
with_clip own c = record own { clips = own.clips ++ c ∷ [] }

-- with clip n retired
abbrev pub with_retired : ℕ → Own → Own
with_retired n own = record own { clips = alter (λ c. c.n == n) (λ c. record c { retired = true }) own.clips }

-- with the clip retired that a call retires; a refusal retires none
abbrev pub with_taken_off : Result Clip Refusal → Own → Own
with_taken_off (Ok c) own = with_retired c.n own
with_taken_off (Err e) own = own

-- with one offer more
abbrev pub with_offer : Own → Offer → Own
with_offer own o = record own { offers = own.offers ++ o ∷ [] }

-- with offer n withdrawn
abbrev pub with_withdrawn : ℕ → Own → Own
with_withdrawn n own =
    record own { offers = alter (λ o. o.n == n) (λ o. record o { withdrawn = true }) own.offers }
