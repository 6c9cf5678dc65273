-- `words_in`: the words of a name, as they stand.
use Rattle.std.proofs.Common.{◌∙◌, [], List, ℕ, ap, sym, map}
use Rattle.std.specs.Prelude.{Option, option_map, unwrap_or}
use Rattle.std.proofs.lemmas.Result.{IfOk-weaker}
use Rattle.std.specs.Borrow.{Bor}
use Rattle.clap.specs.Words.{found_of}
use Rattle.clap.proofs.WalkLemmas.{raw_values-rows}
use Rattle.playout_args.proofs.words.words_in.Goals as goal

pub returns-in-Some : goal.returns-in-Some
returns-in-Some c =
    let are =
    sym (raw_values-rows (found_of c.args.found.now) c.args.name.now) ∙ sym c.get_strs.ensures
    ∙ ap (option_map (λ (s : Bor (List (Bor (List ℕ)))). map (λ v. v.now) s.now)) c.in-Some.is in
    IfOk-weaker c.from_slice.result _ _
    (λ v h. ap (map (λ (t : Bor (List ℕ)). t.now)) h
    ∙ sym (ap (λ (o : Option (List (List ℕ))). unwrap_or o []) are)) c.from_slice.ensures.items

pub returns-in-None : goal.returns-in-None
returns-in-None c =
    let are =
    sym (raw_values-rows (found_of c.args.found.now) c.args.name.now) ∙ sym c.get_strs.ensures
    ∙ ap (option_map (λ (s : Bor (List (Bor (List ℕ)))). map (λ v. v.now) s.now)) c.in-None.is in
    ap (map (λ (t : Bor (List ℕ)). t.now)) c.new.ensures.items
    ∙ sym (ap (λ (o : Option (List (List ℕ))). unwrap_or o []) are)
