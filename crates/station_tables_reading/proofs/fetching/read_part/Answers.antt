-- `read_part`: the part of what the channel sees that a command needs, or `None` where the channel isn't in the plan.
use Rattle.std.proofs.Common.{◌≡◌, ℕ, List, Option, Some, None, refl, sym, ◌∙◌, subst}
use Rattle.std.specs.Prelude.{◌==◌}
use Rattle.std.specs.Option.{option_map}
use Rattle.channel_plan.specs.declared.plan.PlanRow.{PlanRow}
use Rattle.vault_core.specs.declared.tape.Tape.{Tape}
use Rattle.vault_core.specs.declared.clip.Clip.{Clip}
use Rattle.vault_core.specs.declared.offer.Offer.{Offer}
use Rattle.vault_core.specs.Questions.{listed}
use Rattle.vault_core.specs.Asked.{AreTapeAnswers, AreClipAnswers}
use Rattle.grant_core.specs.Asked.{AreOfferAnswers}
use Rattle.channel_view_model.specs.Tables.{of_channel, rows_of}
use Rattle.channel_view_model.specs.Seen.{grants_to}
use Rattle.channel_view_model.proofs.ViewLemmas.{found_channel}
use Rattle.channel_view_model.specs.Centre.{plan_of, view_at, view_of}
use Rattle.channel_view_model.specs.Need.{IsFetched, IsDayAnswer, IsAiringAnswer, AreSourceAnswers, items_asked}
use Rattle.channel_view_model.specs.Need.{names_asked}
use Rattle.channel_view_model.proofs.TableLemmas.{picked_is}
use Rattle.station_tables_records.specs.Inside.{inside}
use Rattle.station_tables_statements.specs.Calls.{set_in}
use Rattle.station_tables_statements.specs.Numbered.{AreNumbered}
use Rattle.station_tables_statements.proofs.LookLemmas.{owned_looked, looks_then, look_after, read_is_look, was_clean}
use Rattle.station_tables_statements.proofs.LookLemmas.{set_before}
use Rattle.station_tables_records.proofs.InsideLemmas.{reads_on, reads_failed}
use Rattle.station_tables_reading.proofs.fetching.read_part.Goals as goal

-- a channel's rows of a table, as what is asked of them reads them
own_rows : {A : Type 0} (ch : ℕ) (table : List (ℕ × A)) → of_channel ch table ≡ listed (rows_of ch table)
own_rows ch table = picked_is (λ r. r.0 == ch) (λ r. r.1) table

pub returns-in_default-clause-part : goal.returns-in_default-clause-part
unfolding view_of
returns-in_default-clause-part g c centre clean owned rules known =
    let rows = set_in (inside g.S.Store c.args.tx.now) in
    let absent : None ≡ plan_of c.args.channel rows = sym (known ∙ c.in_default.is) in
    subst (λ (o : Option PlanRow). IsFetched c.args.need.now (option_map (view_at c.args.channel rows) o) None) absent
    tt

pub returns-clause-reads : goal.returns-clause-reads
returns-clause-reads g c =
    reads_on g.S.Store _ _ _ _
    (look_after g.S.Store _ _ _ _ _ c.in_ok-test_open.ensures.reads
    (looks_then g.S.Store _ _ _ _ _ c.in_ok-tapes.ensures.looks
    (looks_then g.S.Store _ _ _ _ _ c.in_ok-clips.ensures.looks
    (looks_then g.S.Store _ _ _ _ _ c.in_ok-offers.ensures.looks
    (looks_then g.S.Store _ _ _ _ _ c.in_ok-air.ensures.looks c.in_ok-aired.ensures.looks)))))

pub returns-clause-part : goal.returns-clause-part
unfolding view_of
returns-clause-part g c centre clean owned rules known =
    let s = g.S.Store in
    let old = inside s c.args.tx.now in
    let ch = c.args.channel in
    let rows = set_in old in
    let need = c.args.need.now in
    let plan = c.in-Some.plan in
    let clean_shown = was_clean s _ _ _ c.in_ok-aired.ensures.looks clean in
    let clean_offered = was_clean s _ _ _ c.in_ok-air.ensures.looks clean_shown in
    let clean_clipped = was_clean s _ _ _ c.in_ok-offers.ensures.looks clean_offered in
    let clean_taped = was_clean s _ _ _ c.in_ok-clips.ensures.looks clean_clipped in
    let opened = read_is_look s _ _ _ c.in_ok-test_open.ensures.reads in
    let taped = looks_then s _ _ _ _ _ opened c.in_ok-tapes.ensures.looks in
    let clipped = looks_then s _ _ _ _ _ taped c.in_ok-clips.ensures.looks in
    let offered = looks_then s _ _ _ _ _ clipped c.in_ok-offers.ensures.looks in
    let shown = looks_then s _ _ _ _ _ offered c.in_ok-air.ensures.looks in
    let there : Some plan ≡ plan_of ch rows = sym (known ∙ c.in-Some.is) in
    let own = rules.own ch plan (sym there) in
    let mine : plan.ch ≡ ch = found_channel ch rows.channels plan (sym there) in
    let planned_is : plan_of plan.ch rows ≡ Some plan =
    subst (λ k. plan_of k rows ≡ Some plan) (sym mine) (sym there) in
    let tapes =
    set_before s _ _ _ _ _ opened c.in_ok-tapes.ensures.looks
    (λ set. AreNumbered (λ (t : Tape). t.n) ch set.tapes
    → AreTapeAnswers need.tapes (of_channel ch set.tapes) c.in_ok-tapes.tapes) c.in_ok-tapes.ensures.found centre
    clean_taped own.numbers in
    let clips =
    set_before s _ _ _ _ _ taped c.in_ok-clips.ensures.looks
    (λ set. AreNumbered (λ (k : Clip). k.n) ch set.clips
    → AreClipAnswers need.clips (of_channel ch set.clips) c.in_ok-clips.clips) c.in_ok-clips.ensures.found centre
    clean_clipped own.clips.numbers in
    let offers =
    set_before s _ _ _ _ _ clipped c.in_ok-offers.ensures.looks
    (λ set. AreNumbered (λ (o : Offer). o.n) ch set.offers
    → AreOfferAnswers need.offers (of_channel ch set.offers) c.in_ok-offers.offers) c.in_ok-offers.ensures.found
    centre clean_offered own.offers.numbers in
    let day =
    set_before s _ _ _ _ _ offered c.in_ok-air.ensures.looks
    (λ set. plan_of plan.ch set ≡ Some plan
    → IsDayAnswer need.day plan (of_channel plan.ch set.days) c.in_ok-air.air.day) c.in_ok-air.ensures.day centre
    clean_shown planned_is in
    let sources =
    set_before s _ _ _ _ _ offered c.in_ok-air.ensures.looks
    (λ set. AreSourceAnswers need.sources (items_asked need.items c.in_ok-air.air.day) (names_asked need.named)
    (rows_of plan.ch set.clips)
    (grants_to plan.ch set.offers)
    c.in_ok-air.air.sources.clips.items c.in_ok-air.air.sources.grants.items) c.in_ok-air.ensures.sources centre
    clean_shown in
    let owned_shown =
    owned_looked s c.args.tx.now c.find_air.new.tx (shown.same clean_shown) (was_clean s _ _ _ shown clean_shown)
    owned in
    let aired =
    set_before s _ _ _ _ _ shown c.in_ok-aired.ensures.looks
    (λ set. plan_of plan.ch set ≡ Some plan
    → IsAiringAnswer need.aired plan (of_channel plan.ch set.aired) c.in_ok-aired.aired)
    (λ still later. c.in_ok-aired.ensures.airing still later owned_shown) centre clean planned_is in
    subst
    (λ (o : Option PlanRow). IsFetched need (option_map (view_at ch rows) o)
    (Some
    (record {
      plan = plan;
      tapes = c.in_ok-tapes.tapes;
      clips = c.in_ok-clips.clips;
      offers = c.in_ok-offers.offers;
      day =
          c.in_ok-air.air.day;
      aired = c.in_ok-aired.aired;
      sources = c.in_ok-air.air.sources;
    }))) there
    (record {
      plan = refl;
      tapes = subst (λ reading. AreTapeAnswers need.tapes reading c.in_ok-tapes.tapes) (own_rows ch rows.tapes) tapes;
      clips = subst (λ reading. AreClipAnswers need.clips reading c.in_ok-clips.clips) (own_rows ch rows.clips) clips;
      offers =
          subst (λ reading. AreOfferAnswers need.offers reading c.in_ok-offers.offers) (own_rows ch rows.offers) offers;
      day =
          subst (λ reading. IsDayAnswer need.day plan reading c.in_ok-air.air.day) (own_rows ch rows.days)
          (subst (λ k. IsDayAnswer need.day plan (of_channel k rows.days) c.in_ok-air.air.day) mine day);
      aired =
          subst (λ reading. IsAiringAnswer need.aired plan reading c.in_ok-aired.aired) (own_rows ch rows.aired)
          (subst (λ k. IsAiringAnswer need.aired plan (of_channel k rows.aired) c.in_ok-aired.aired) mine aired);
      sources =
          subst
          (λ k. AreSourceAnswers need.sources (items_asked need.items c.in_ok-air.air.day) (names_asked need.named)
          (rows_of k rows.clips)
          (grants_to k rows.offers)
          c.in_ok-air.air.sources.clips.items c.in_ok-air.air.sources.grants.items) mine sources;
    })

pub returns-in_err-air-clause-reads : goal.returns-in_err-air-clause-reads
returns-in_err-air-clause-reads g c =
    reads_failed g.S.Store _ _ _ _ c.from_residual-in_err-air.ensures.0
    (look_after g.S.Store _ _ _ _ _ c.in_ok-test_open.ensures.reads
    (looks_then g.S.Store _ _ _ _ _ c.in_ok-tapes.ensures.looks
    (looks_then g.S.Store _ _ _ _ _ c.in_ok-clips.ensures.looks
    (looks_then g.S.Store _ _ _ _ _ c.in_ok-offers.ensures.looks c.find_air.ensures.looks))))

pub returns-in_err-aired-clause-reads : goal.returns-in_err-aired-clause-reads
returns-in_err-aired-clause-reads g c =
    reads_failed g.S.Store _ _ _ _ c.from_residual-in_err-aired.ensures.0
    (look_after g.S.Store _ _ _ _ _ c.in_ok-test_open.ensures.reads
    (looks_then g.S.Store _ _ _ _ _ c.in_ok-tapes.ensures.looks
    (looks_then g.S.Store _ _ _ _ _ c.in_ok-clips.ensures.looks
    (looks_then g.S.Store _ _ _ _ _ c.in_ok-offers.ensures.looks
    (looks_then g.S.Store _ _ _ _ _ c.in_ok-air.ensures.looks c.find_airing.ensures.looks)))))
