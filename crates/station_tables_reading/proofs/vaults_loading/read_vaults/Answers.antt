-- `read_vaults`: the vaults of all channels of a plan.
use Rattle.std.proofs.Common.{rules as common, ◌≡◌, ◌+◌, ◌*◌, ◌∙◌, length, sym, subst}
use Rattle.std.specs.Prelude.{IfSome}
use Rattle.std.specs.Option.{option_map}
use Rattle.station_tables_records.specs.Inside.{inside}
use Rattle.station_tables_records.proofs.InsideLemmas.{reads_on}
use Rattle.station_tables_statements.specs.Calls.{set_in}
use Rattle.station_tables_statements.proofs.LookLemmas.{look_after, looks_then, read_is_look, was_clean}
use Rattle.station_tables_reading.specs.Vaults.{IsTableRead, tape_bytes, clip_bytes, offer_bytes}
use Rattle.station_tables_reading.proofs.VaultLemmas.{table_before, of_plan, clips_past, offers_past}
use Rattle.station_tables_reading.proofs.vaults_loading.read_vaults.Goals as goal

pub returns-in_default-2-clause-vaults : goal.returns-in_default-2-clause-vaults
returns-in_default-2-clause-vaults g c centre clean rules known =
    let s = g.S.Store in
    let set = set_in (inside s c.args.tx.now) in
    let plan = c.args.plan.now in
    let of = of_plan set plan rules known in
    let opened = read_is_look s _ _ _ c.in_ok-test_open.ensures.reads in
    let tapes_look = c.in_ok-tapes.ensures.looks in
    let clips_look = c.in_ok-clips.ensures.looks in
    let taped = looks_then s _ _ _ _ _ opened tapes_look in
    let tapes =
    table_before s _ _ _ _ _ (λ rows. rows.tapes) plan tape_bytes c.args.most
    (option_map (λ f. f.0.items) c.in_ok-tapes.field-0) opened tapes_look c.in_ok-tapes.ensures.rows centre
    (was_clean s _ _ _ clips_look clean) of.order of.tapes in
    let clips =
    table_before s _ _ _ _ _ (λ rows. rows.clips) plan clip_bytes c.in-Some.left
    (option_map (λ f. f.0.items) c.in_ok-clips.field-0) taped clips_look c.in_ok-clips.ensures.rows centre clean
    of.order of.clips in
    clips_past set c.in-Some.tapes.items c.in-Some.left c.args.most
    (subst (λ o. IsTableRead set.tapes tape_bytes c.args.most (option_map (λ f. f.0.items) o)) c.in-Some.is tapes)
    (subst (λ o. IfSome o (λ f. length f.0.items * tape_bytes + f.1 ≡ c.args.most)) c.in-Some.is
    c.in_ok-tapes.ensures.left)
    (subst (λ o. IsTableRead set.clips clip_bytes c.in-Some.left (option_map (λ f. f.0.items) o)) c.in_default-2.is
    clips)

pub returns-in_default-3-clause-reads : goal.returns-in_default-3-clause-reads
returns-in_default-3-clause-reads g c =
    reads_on g.S.Store _ _ _ _
    (look_after g.S.Store _ _ _ _ _ c.in_ok-test_open.ensures.reads
    (looks_then g.S.Store _ _ _ _ _ c.in_ok-tapes.ensures.looks
    (looks_then g.S.Store _ _ _ _ _ c.in_ok-clips.ensures.looks c.in_ok-offers.ensures.looks)))

pub returns-in_default-3-clause-vaults : goal.returns-in_default-3-clause-vaults
returns-in_default-3-clause-vaults g c centre clean rules known =
    let s = g.S.Store in
    let set = set_in (inside s c.args.tx.now) in
    let plan = c.args.plan.now in
    let of = of_plan set plan rules known in
    let opened = read_is_look s _ _ _ c.in_ok-test_open.ensures.reads in
    let tapes_look = c.in_ok-tapes.ensures.looks in
    let clips_look = c.in_ok-clips.ensures.looks in
    let offers_look = c.in_ok-offers.ensures.looks in
    let taped = looks_then s _ _ _ _ _ opened tapes_look in
    let clipped = looks_then s _ _ _ _ _ taped clips_look in
    let clean_clipped = was_clean s _ _ _ offers_look clean in
    let tapes =
    table_before s _ _ _ _ _ (λ rows. rows.tapes) plan tape_bytes c.args.most
    (option_map (λ f. f.0.items) c.in_ok-tapes.field-0) opened tapes_look c.in_ok-tapes.ensures.rows centre
    (was_clean s _ _ _ clips_look clean_clipped) of.order of.tapes in
    let clips =
    table_before s _ _ _ _ _ (λ rows. rows.clips) plan clip_bytes c.in-Some.left
    (option_map (λ f. f.0.items) c.in_ok-clips.field-0) taped clips_look c.in_ok-clips.ensures.rows centre
    clean_clipped of.order of.clips in
    let offers =
    table_before s _ _ _ _ _ (λ rows. rows.offers) plan offer_bytes c.in-Some-2.left
    (option_map (λ f. f.0.items) c.in_ok-offers.field-0) clipped offers_look c.in_ok-offers.ensures.rows centre clean
    of.order of.offers in
    offers_past set c.in-Some.tapes.items c.in-Some-2.clips.items c.in-Some.left c.in-Some-2.left c.args.most
    (subst (λ o. IsTableRead set.tapes tape_bytes c.args.most (option_map (λ f. f.0.items) o)) c.in-Some.is tapes)
    (subst (λ o. IsTableRead set.clips clip_bytes c.in-Some.left (option_map (λ f. f.0.items) o)) c.in-Some-2.is clips)
    (subst (λ o. IfSome o (λ f. length f.0.items * tape_bytes + f.1 ≡ c.args.most)) c.in-Some.is
    c.in_ok-tapes.ensures.left)
    (subst (λ o. IfSome o (λ f. length f.0.items * clip_bytes + f.1 ≡ c.in-Some.left)) c.in-Some-2.is
    c.in_ok-clips.ensures.left)
    (subst (λ o. IsTableRead set.offers offer_bytes c.in-Some-2.left (option_map (λ f. f.0.items) o)) c.in_default-3.is
    offers)

pub returns-clause-reads : goal.returns-clause-reads
returns-clause-reads g c =
    reads_on g.S.Store _ _ _ _
    (look_after g.S.Store _ _ _ _ _ c.in_ok-test_open.ensures.reads
    (looks_then g.S.Store _ _ _ _ _ c.in_ok-tapes.ensures.looks
    (looks_then g.S.Store _ _ _ _ _ c.in_ok-clips.ensures.looks c.in_ok-offers.ensures.looks)))

pub returns-clause-vaults : goal.returns-clause-vaults
returns-clause-vaults g c centre clean rules known =
    let s = g.S.Store in
    let set = set_in (inside s c.args.tx.now) in
    let plan = c.args.plan.now in
    let of = of_plan set plan rules known in
    let opened = read_is_look s _ _ _ c.in_ok-test_open.ensures.reads in
    let tapes_look = c.in_ok-tapes.ensures.looks in
    let clips_look = c.in_ok-clips.ensures.looks in
    let offers_look = c.in_ok-offers.ensures.looks in
    let taped = looks_then s _ _ _ _ _ opened tapes_look in
    let clipped = looks_then s _ _ _ _ _ taped clips_look in
    let clean_clipped = was_clean s _ _ _ offers_look clean in
    let tapes =
    table_before s _ _ _ _ _ (λ rows. rows.tapes) plan tape_bytes c.args.most
    (option_map (λ f. f.0.items) c.in_ok-tapes.field-0) opened tapes_look c.in_ok-tapes.ensures.rows centre
    (was_clean s _ _ _ clips_look clean_clipped) of.order of.tapes in
    let clips =
    table_before s _ _ _ _ _ (λ rows. rows.clips) plan clip_bytes c.in-Some.left
    (option_map (λ f. f.0.items) c.in_ok-clips.field-0) taped clips_look c.in_ok-clips.ensures.rows centre
    clean_clipped of.order of.clips in
    let offers =
    table_before s _ _ _ _ _ (λ rows. rows.offers) plan offer_bytes c.in-Some-2.left
    (option_map (λ f. f.0.items) c.in_ok-offers.field-0) clipped offers_look c.in_ok-offers.ensures.rows centre clean
    of.order of.offers in
    let channels_are : c.in_ok-to_vec.field-0.items ≡ plan = search common in
    let tapes_are =
    subst (λ o. IsTableRead set.tapes tape_bytes c.args.most (option_map (λ f. f.0.items) o)) c.in-Some.is tapes in
    let clips_are =
    subst (λ o. IsTableRead set.clips clip_bytes c.in-Some.left (option_map (λ f. f.0.items) o)) c.in-Some-2.is clips
    in
    let offers_are =
    subst (λ o. IsTableRead set.offers offer_bytes c.in-Some-2.left (option_map (λ f. f.0.items) o)) c.in-Some-3.is
    offers in
    λ i. record {
      channels = (channels_are ∙ sym known) i;
      tapes = tapes_are i;
      clips = clips_are i;
      offers = offers_are i;
      days = c.new.ensures.items i;
      aired = c.new-2.ensures.items i;
    }
