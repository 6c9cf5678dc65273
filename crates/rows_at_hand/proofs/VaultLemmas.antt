-- The vaults of rows: what each keeps, what is asked of them, and what a change of own rows makes of them.
use Rattle.std.proofs.Common.{◌≡◌, ◌≢◌, ◌<◌, ℕ, zero, suc, List, [], ◌∷◌, ◌++◌, length, take, set, get_or, map, filter}
use Rattle.std.proofs.Common.{Bool}
use Rattle.std.proofs.Common.{inl, inr, ◌⊎◌, true, false, ◌&&◌, ◌+◌, Result, IfOk, OnOk, refl, sym, ◌∙◌, ap, subst}
use Rattle.std.proofs.Common.{arith}
use Rattle.std.specs.Prelude.{◌==◌, nat_lt, find, Option, Some, None, is_some, if◌then◌else◌}
use Rattle.std.specs.List.{list_all, flat_map}
use Rattle.std.specs.List.Sorted.{IsNonDecreasingBy}
use Rattle.std.specs.Option.{option_map}
use Rattle.std.proofs.lemmas.Bool.Decides.{nat_tests}
use Rattle.std.proofs.lemmas.Grind.{flat_map-append}
use Rattle.std.proofs.lemmas.List.{append-nil, get_or-map, length-map, map_more, take_more}
use Rattle.std.proofs.lemmas.Result.{IfOk-weaker, on_ok_weaker}
use Rattle.channel_plan.specs.declared.plan.PlanRow.{PlanRow}
use Rattle.channel_plan.specs.Plan.{is_plan_in_order}
use Rattle.vault_core.specs.declared.command.Put.{Put}
use Rattle.vault_core.specs.declared.clip.Clip.{Clip}
use Rattle.vault_core.specs.declared.offer.Offer.{Offer}
use Rattle.vault_core.specs.Questions.{listed}
use Rattle.vault_core.specs.Own.{own_seen}
use Rattle.vault_core.specs.Asked.{AreTapeAnswers, AreClipAnswers}
use Rattle.vault_core.specs.Rules.{is_numbered_from, KeepsOwnRules}
use Rattle.grant_core.specs.declared.grant.Grant.{Grant}
use Rattle.grant_core.specs.Asked.{AreOfferAnswers}
use Rattle.playlist_core.specs.declared.source.Source.{Source}
use Rattle.playlist_core.specs.declared.source.Source.TheVariants.{Black, Bars, Own as OwnClip, Lent as LentClip}
use Rattle.playlist_core.specs.declared.source.SourcesFound.{SourcesFound}
use Rattle.playlist_core.specs.Source.{found, seen_of, of_clip, of_grant}
use Rattle.report_texts.specs.Vault.{vault_text}
use Rattle.report_texts.specs.Clips.{clip_text}
use Rattle.report_texts.specs.Offers.{offer_text}
use Rattle.report_texts.specs.Lent.{lent_text}
use Rattle.channel_view_model.specs.declared.command.Command.{Command}
use Rattle.channel_view_model.specs.declared.command.Command.TheVariants as commands
use Rattle.channel_view_model.specs.declared.command.Change.{Change}
use Rattle.channel_view_model.specs.declared.command.Change.TheVariants.{Vault as OnVault}
use Rattle.channel_view_model.specs.declared.command.VaultChange.{VaultChange}
use Rattle.channel_view_model.specs.declared.command.VaultChange.TheVariants.{Tape as TapeRow, Clip as ClipRow}
use Rattle.channel_view_model.specs.declared.command.VaultChange.TheVariants.{Offer as OfferRow}
use Rattle.channel_view_model.specs.declared.need.Need.{Need}
use Rattle.channel_view_model.specs.declared.need.SourcesAsked.TheVariants.{Nothing}
use Rattle.channel_view_model.specs.declared.part.Part.{Part}
use Rattle.channel_view_model.specs.declared.table.Table.{Table}
use Rattle.channel_view_model.specs.declared.table.Table.TheVariants.{Vault as VaultTable, Clips, Offers, Lent, Days}
use Rattle.channel_view_model.specs.Tables.{Table as RowTable, rows_of}
use Rattle.channel_view_model.specs.Seen.{grant_of, grants_to}
use Rattle.channel_view_model.specs.TableText.{text_at, text_seen}
use Rattle.channel_view_model.specs.Decide.{decision, vault_decision}
use Rattle.channel_view_model.specs.Centre.{Centre, IsChangeOf, plan_of, seen_by, changed, view_at, view_of}
use Rattle.channel_view_model.specs.Need.{IsFetched, IsDayAnswer, IsAiringAnswer, AreSourceAnswers, IsSourceAnswer}
use Rattle.channel_view_model.specs.Need.{clips_of, grants_of, items_asked, names_asked, of_own}
use Rattle.channel_view_model.specs.Rules.{are_tables, KeepsRules}
use Rattle.channel_view_model.proofs.OwnRuleLemmas.{IsOfDay, day_change_asked, airing_change_asked}
use Rattle.channel_view_model.proofs.RuleLemmas.{change_keeps, in_order}
use Rattle.channel_view_model.proofs.StepLemmas.{seen_is}
use Rattle.channel_view_model.proofs.ViewLemmas.{found_channel}
use Rattle.channel_view_model.proofs.PlannedLemmas.{rows_planned, planned_all}
use Rattle.channel_view.specs.Places.{AreSourcesNumbered}
use Rattle.channel_view.proofs.GrantPlaceLemmas.{sources_numbered}
use Rattle.channel_view_laws.proofs.PartTableLemmas.{equal, found-filter, plan_in_order-part, rows_of-part, table-part}
use Rattle.channel_view_laws.proofs.PartTableLemmas.{replace-in, replace-out}
use Rattle.channel_view_laws.proofs.PartViewLemmas.{plan_of-part, own_of-part}
use Rattle.rows_at_hand.specs.declared.vaults.Vault.{Vault}
use Rattle.rows_at_hand.specs.Vaults.{AreVaults, HasChannel, own_rows, vault_of, vaults_in, vault_at, vault_clips}
use Rattle.rows_at_hand.specs.Vaults.{is_at_hand, lent_in, with_sources}

itself : (c : ℕ) → (c == c) ≡ true
itself c = grind (arith, nat_tests)

-- ---- the own rows of channel c

module _ (rows : Centre) (c : ℕ) where
  abbrev mine : ℕ → Bool
  mine k = k == c

  pub plan_same : plan_of c (own_rows c rows) ≡ plan_of c rows
  plan_same = plan_of-part mine rows c (itself c)

  -- a channel of their plan is c
  in_own : (d : ℕ) (p : PlanRow) → plan_of d (own_rows c rows) ≡ Some p → mine d ≡ true
  in_own d p known =
      ap mine (sym (found_channel d (own_rows c rows).channels p known))
      ∙ found-filter (λ q. mine q.ch) (λ q. q.ch == d) rows.channels p known

  tables : KeepsRules rows → are_tables (own_rows c rows) ≡ true
  tables rules =
      let h : are_tables rows ≡ true = rules.tables in
      let tapes = table-part mine rows.channels rows.tapes (grind (arith, h)) in
      let clips = table-part mine rows.channels rows.clips (grind (arith, h)) in
      let offers = table-part mine rows.channels rows.offers (grind (arith, h)) in
      grind (arith, tapes, clips, offers)

  -- they keep the rules
  pub own_keep : KeepsRules rows → KeepsRules (own_rows c rows)
  own_keep rules = record {
    plan = plan_in_order-part mine rows.channels rules.plan;
    tables = tables rules;
    own =
        λ d p known. subst KeepsOwnRules (sym (own_of-part mine rows d (in_own d p known) p))
        (rules.own d p (sym (plan_of-part mine rows d (in_own d p known)) ∙ known));
    days = record { table = refl; each = tt; seen = λ d p known. refl };
    aired = record { table = refl; each = tt; sealed = λ d p known. refl };
  }

  none_of_others : {A : Type 0} (d : ℕ) (t : RowTable A) → mine d ≡ false → rows_of d (filter (λ r. mine r.0) t) ≡ []
  none_of_others d [] other = refl
  none_of_others d (r ∷ rs) other = grind (arith, nat_tests, other, none_of_others d rs other)

  numbered : {A : Type 0} (number : A → ℕ) (d : ℕ) (t : RowTable A) → is_numbered_from number 1 (rows_of d t) ≡ true
      → is_numbered_from number 1 (rows_of d (filter (λ r. mine r.0) t)) ≡ true
  numbered number d t h =
      elim (mine d)
      as (λ b. mine d ≡ b → is_numbered_from number 1 (rows_of d (filter (λ r. mine r.0) t)) ≡ true) [
        | true ↦ λ is. ap (is_numbered_from number 1) (rows_of-part mine d is t) ∙ h
        | false ↦ λ other. ap (is_numbered_from number 1) (none_of_others d t other)
      ] refl

  -- their clips and offers are numbered
  pub own_numbered : (d : ℕ) (p : PlanRow) → KeepsRules rows → plan_of d rows ≡ Some p
      → AreSourcesNumbered d (own_rows c rows)
  own_numbered d p rules known =
      let all = sources_numbered rows d p rules known in
      record {
        clips = numbered (λ (k : Clip). k.n) d rows.clips all.clips;
        offers = λ owner. numbered (λ (o : Offer). o.n) owner rows.offers (all.offers owner);
      }

-- ---- what a source names

-- the channel among whose rows channel c finds what a source names
abbrev pub holder : ℕ → Source → ℕ
holder c Black = c
holder c Bars = c
holder c (OwnClip n) = c
holder c (LentClip owner n) = owner

-- a lent clip is one of its owner's offers
lent_among : (c owner n : ℕ) (t : RowTable Offer)
    → find (λ g. g.owner == owner && g.offer.n == n) (grants_to c (filter (λ r. r.0 == owner) t))
    ≡ find (λ g. g.owner == owner && g.offer.n == n) (grants_to c t)
lent_among c owner n [] = refl
lent_among c owner n (r ∷ rs) = grind (arith, nat_tests, lent_among c owner n rs)

same_found : (rows : Centre) (c : ℕ) (source : Source)
    → found (seen_of (rows_of c (own_rows (holder c source) rows).clips)
    (grants_to c (own_rows (holder c source) rows).offers)) source
    ≡ found (seen_of (rows_of c rows.clips) (grants_to c rows.offers)) source
same_found rows c Black = refl
same_found rows c Bars = refl
same_found rows c (OwnClip n) =
    ap (λ ks. of_clip (find (λ k. k.n == n) ks)) (rows_of-part (λ k. k == c) c (itself c) rows.clips)
same_found rows c (LentClip owner n) = ap of_grant (lent_among c owner n rows.offers)

pub source_there : (rows : Centre) (c : ℕ) (source : Source) (ks : List Clip) (gs : List Grant)
    → IsSourceAnswer source (rows_of c (own_rows (holder c source) rows).clips)
    (grants_to c (own_rows (holder c source) rows).offers) ks gs
    → IsSourceAnswer source (rows_of c rows.clips) (grants_to c rows.offers) ks gs
source_there rows c source ks gs is =
    (is.0 ∙ ap clips_of (same_found rows c source), is.1 ∙ ap grants_of (same_found rows c source))

-- ---- the vault of a channel

vault_found : (rows : Centre) (c : ℕ) (ps : List PlanRow)
    → vault_at c (map (λ p. vault_of p.ch rows) ps) ≡ option_map (λ p. vault_of c rows) (find (λ p. p.ch == c) ps)
vault_found rows c [] = refl
vault_found rows c (p ∷ ps) =
    elim (p.ch == c)
    as (λ b. (p.ch == c) ≡ b
    → (if b then Some (vault_of p.ch rows) else vault_at c (map (λ q. vault_of q.ch rows) ps))
    ≡ option_map (λ q. vault_of c rows) (if b then Some p else find (λ q. q.ch == c) ps)) [
      | true ↦ λ e. ap (λ k. Some (vault_of k rows)) (equal p.ch c e)
      | false ↦ λ e. vault_found rows c ps
    ] refl

pub vault_is : (rows : Centre) (vaults : List Vault) (c : ℕ) → AreVaults rows vaults
    → vault_at c vaults ≡ option_map (λ p. vault_of c rows) (plan_of c rows)
vault_is rows vaults c at = ap (vault_at c) at.are ∙ vault_found rows c rows.channels

-- one that is there is of a channel of the plan
pub record IsVaultOf (rows : Centre) (c : ℕ) (vault : Vault) : Type 0 where
  pub row : PlanRow
  pub planned : plan_of c rows ≡ Some row
  pub is : vault ≡ vault_of c rows

pub there : (rows : Centre) (c : ℕ) (vault : Vault)
    → Some vault ≡ option_map (λ p. vault_of c rows) (plan_of c rows) → IsVaultOf rows c vault
there rows c vault is = by (plan_of c rows) refl is
  where
    by : (o : Option PlanRow) → plan_of c rows ≡ o → Some vault ≡ option_map (λ p. vault_of c rows) o
        → IsVaultOf rows c vault
    by None known is = absurd (cc)
    by (Some p) known is = let same : vault ≡ vault_of c rows = cc in record { row = p; planned = known; is = same }

pub absent : (rows : Centre) (c : ℕ) → None ≡ option_map (λ p. vault_of c rows) (plan_of c rows)
    → plan_of c rows ≡ None
absent rows c is = by (plan_of c rows) is
  where
    by : (o : Option PlanRow) → None ≡ option_map (λ p. vault_of c rows) o → o ≡ None
    by None is = refl
    by (Some p) is = absurd (cc)

-- ---- what is lent to channel c

module _ (c : ℕ) where
  grants_append : (xs ys : RowTable Offer) → grants_to c (xs ++ ys) ≡ grants_to c xs ++ grants_to c ys
  grants_append [] ys = refl
  grants_append (r ∷ xs) ys =
      elim (r.1.grantee == c)
      as (λ b. map grant_of (if b then r ∷ filter (λ s. s.1.grantee == c) (xs ++ ys)
      else filter (λ s. s.1.grantee == c) (xs ++ ys))
      ≡ map grant_of (if b then r ∷ filter (λ s. s.1.grantee == c) xs else filter (λ s. s.1.grantee == c) xs)
      ++ grants_to c ys) [
        | true ↦ ap (λ l. grant_of r ∷ l) (grants_append xs ys)
        | false ↦ grants_append xs ys
      ]

  lent_planned : (rows : Centre) (ps : List PlanRow)
      → lent_in c (map (λ p. vault_of p.ch rows) ps) ≡ grants_to c (rows_planned rows.offers ps)
  lent_planned rows [] = refl
  lent_planned rows (p ∷ ps) =
      ap (λ l. grants_to c (filter (λ r. r.0 == p.ch) rows.offers) ++ l) (lent_planned rows ps)
      ∙ sym (grants_append (filter (λ r. r.0 == p.ch) rows.offers) (rows_planned rows.offers ps))

  -- is lent in all vaults
  pub lent_all : (rows : Centre) (vaults : List Vault) → AreVaults rows vaults
      → lent_in c vaults ≡ grants_to c rows.offers
  lent_all rows vaults at =
      let h : are_tables rows ≡ true = at.rules.tables in
      ap (lent_in c) at.are ∙ lent_planned rows rows.channels
      ∙ ap (grants_to c) (planned_all rows.channels rows.offers at.rules.plan (grind (arith, h)))

-- its clips are those of its vault
pub clips_all : (rows : Centre) (vaults : List Vault) (c : ℕ) (p : PlanRow) → AreVaults rows vaults
    → plan_of c rows ≡ Some p → vault_clips (vault_at c vaults) ≡ rows_of c rows.clips
clips_all rows vaults c p at known =
    ap vault_clips (vault_is rows vaults c at ∙ ap (option_map (λ q. vault_of c rows)) known)

-- a channel that isn't in the plan lends nothing
nothing_planned : (c : ℕ) (ps : List PlanRow) (t : RowTable Offer) → find (λ p. p.ch == c) ps ≡ None
    → filter (λ r. r.0 == c) (rows_planned t ps) ≡ []
nothing_planned c [] t none = refl
nothing_planned c (p ∷ ps) t none = by (p.ch == c) refl none (nothing_planned c ps t)
  where
    apart : (xs ys : RowTable Offer)
        → filter (λ r. r.0 == c) (xs ++ ys) ≡ filter (λ r. r.0 == c) xs ++ filter (λ r. r.0 == c) ys
    apart [] ys = refl
    apart (r ∷ xs) ys =
        elim (r.0 == c)
        as (λ b. (if b then r ∷ filter (λ s. s.0 == c) (xs ++ ys) else filter (λ s. s.0 == c) (xs ++ ys))
        ≡ (if b then r ∷ filter (λ s. s.0 == c) xs else filter (λ s. s.0 == c) xs) ++ filter (λ s. s.0 == c) ys) [
          | true ↦ ap (λ l. r ∷ l) (apart xs ys)
          | false ↦ apart xs ys
        ]

    others : (k : ℕ) (t : RowTable Offer) → (k == c) ≡ false → filter (λ r. r.0 == c) (filter (λ r. r.0 == k) t) ≡ []
    others k [] other = refl
    others k (r ∷ rs) other = grind (arith, nat_tests, other, others k rs other)

    by : (b : Bool) → (p.ch == c) ≡ b → (if b then Some p else find (λ q. q.ch == c) ps) ≡ None
        → (find (λ q. q.ch == c) ps ≡ None → filter (λ r. r.0 == c) (rows_planned t ps) ≡ [])
        → filter (λ r. r.0 == c) (rows_planned t (p ∷ ps)) ≡ []
    by true mine none rest = absurd (cc)
    by false other none rest =
        apart (filter (λ r. r.0 == p.ch) t) (rows_planned t ps)
        ∙ ap (λ l. l ++ filter (λ r. r.0 == c) (rows_planned t ps)) (others p.ch t other) ∙ rest none

lends_nothing : (rows : Centre) (c : ℕ) → KeepsRules rows → plan_of c rows ≡ None → (own_rows c rows).offers ≡ []
lends_nothing rows c rules none =
    let h : are_tables rows ≡ true = rules.tables in
    ap (filter (λ r. r.0 == c)) (sym (planned_all rows.channels rows.offers rules.plan (grind (arith, h))))
    ∙ nothing_planned c rows.channels rows.offers none

-- so what it is said to lend isn't there
pub nobody_lends : (rows : Centre) (c : ℕ) (p : PlanRow) (source : Source) (ks : List Clip) (gs : List Grant)
    → KeepsRules rows → plan_of c rows ≡ Some p → plan_of (holder c source) rows ≡ None → ks ≡ [] → gs ≡ []
    → IsSourceAnswer source (rows_of c rows.clips) (grants_to c rows.offers) ks gs
nobody_lends rows c p Black ks gs rules known none no_clips no_grants = (no_clips, no_grants)
nobody_lends rows c p Bars ks gs rules known none no_clips no_grants = (no_clips, no_grants)
nobody_lends rows c p (OwnClip n) ks gs rules known none no_clips no_grants =
    absurd (let never : None ≡ Some p = sym none ∙ known in cc)
nobody_lends rows c p (LentClip owner n) ks gs rules known none no_clips no_grants =
    let absent : found (seen_of (rows_of c rows.clips) (grants_to c rows.offers)) (LentClip owner n) ≡ None =
    sym (same_found rows c (LentClip owner n))
    ∙ ap (λ os. of_grant (find (λ g. g.owner == owner && g.offer.n == n) (grants_to c os)))
    (lends_nothing rows owner rules none) in
    (no_clips ∙ ap clips_of (sym absent), no_grants ∙ ap grants_of (sym absent))

-- black and bars are nobody's
pub status_holder : (c : ℕ) (source : Source) → (source ≡ Black) ⊎ (source ≡ Bars) → c ≡ holder c source
status_holder c source (inl is) = ap (holder c) (sym is)
status_holder c source (inr is) = ap (holder c) (sym is)

module _ (c : ℕ) (source : Source) (rows : Centre) (vaults : List Vault) (p : PlanRow) (at : AreVaults rows vaults)
    (known : plan_of c rows ≡ Some p) where
  -- what it names in the rows it names in all vaults
  in_vaults : (ks : List Clip) (gs : List Grant)
      → IsSourceAnswer source (rows_of c rows.clips) (grants_to c rows.offers) ks gs
      → IsSourceAnswer source (vault_clips (vault_at c vaults)) (lent_in c vaults) ks gs
  in_vaults ks gs is =
      subst (λ l. IsSourceAnswer source l (lent_in c vaults) ks gs) (sym (clips_all rows vaults c p at known))
      (subst (λ l. IsSourceAnswer source (rows_of c rows.clips) l ks gs) (sym (lent_all c rows vaults at)) is)

-- what its holder's vault tells is what it names
pub source_found : {E : Type 0} (r : Result SourcesFound E) (c owner : ℕ) (source told : Source) (vaults : List Vault)
    (vault : Vault) → owner ≡ holder c source → told ≡ source → Some vault ≡ vault_at owner vaults
    → (AreSourcesNumbered c vault.rows → IfOk r (λ it. IsSourceAnswer told (rows_of c vault.rows.clips)
    (grants_to c vault.rows.offers) it.clips.items it.grants.items))
    → HasChannel c vaults
    → IfOk r (λ it. IsSourceAnswer source (vault_clips (vault_at c vaults)) (lent_in c vaults) it.clips.items
    it.grants.items)
source_found r c owner source told vaults vault is asked its answered (rows, p, at, known) =
    let v = there rows owner vault (its ∙ vault_is rows vaults owner at) in
    let same = ap (λ w. w.rows) v.is ∙ ap (λ k. own_rows k rows) is in
    IfOk-weaker r _ _
    (λ it answer.
    in_vaults c source rows vaults p at known it.clips.items it.grants.items
    (source_there rows c source it.clips.items it.grants.items
    (subst
    (λ w. IsSourceAnswer source (rows_of c w.clips) (grants_to c w.offers) it.clips.items it.grants.items) same
    (subst
    (λ s. IsSourceAnswer s (rows_of c vault.rows.clips) (grants_to c vault.rows.offers) it.clips.items it.grants.items)
    asked answer))))
    (answered
    (subst (AreSourcesNumbered c) (sym same) (own_numbered rows (holder c source) c p at.rules known)))

-- where it has no vault, it names nothing
pub source_absent : (c owner : ℕ) (source : Source) (vaults : List Vault) (ks : List Clip) (gs : List Grant)
    → owner ≡ holder c source → None ≡ vault_at owner vaults → ks ≡ [] → gs ≡ [] → HasChannel c vaults
    → IsSourceAnswer source (vault_clips (vault_at c vaults)) (lent_in c vaults) ks gs
source_absent c owner source vaults ks gs is its no_clips no_grants (rows, p, at, known) =
    let none = absent rows owner (its ∙ vault_is rows vaults owner at) in
    in_vaults c source rows vaults p at known ks gs
    (nobody_lends rows c p source ks gs at.rules known (ap (λ k. plan_of k rows) (sym is) ∙ none) no_clips no_grants)

-- ---- what is asked

-- a part of own rows, with what sources name, is the part of what the channel sees
pub part_with_sources : (rows : Centre) (c : ℕ) (need : Need) (own : Option Part) (sources : SourcesFound)
    → is_some need.day ≡ false → is_some need.aired ≡ false
    → IsFetched (of_own need.tapes need.clips need.offers) (view_of c (own_rows c rows)) own
    → AreSourceAnswers need.sources (items_asked need.items None) (names_asked need.named) (rows_of c rows.clips)
    (grants_to c rows.offers) sources.clips.items sources.grants.items
    → IsFetched need (view_of c rows) (with_sources sources own)
unfolding view_of
part_with_sources rows c need own sources no_day none_aired fetched named =
    by (plan_of c rows) own
    (subst
    (λ o. IsFetched (of_own need.tapes need.clips need.offers) (option_map (view_at c (own_rows c rows)) o) own)
    (plan_same rows c) fetched)
  where
    alone : {A : Type 0} (t : RowTable A) → rows_of c (filter (λ r. r.0 == c) t) ≡ rows_of c t
    alone t = rows_of-part (λ k. k == c) c (itself c) t

    day_is : (o : Option ℕ) (p : PlanRow) (it : Part) → is_some o ≡ false → it.day ≡ None
        → IsDayAnswer o p (listed (rows_of c rows.days)) it.day
    day_is None p it none is = is
    day_is (Some n) p it none is = absurd (cc)

    aired_is : (o : Option ℕ) (p : PlanRow) (it : Part) → is_some o ≡ false → it.aired ≡ None
        → IsAiringAnswer o p (listed (rows_of c rows.aired)) it.aired
    aired_is None p it none is = is
    aired_is (Some n) p it none is = absurd (cc)

    by : (p : Option PlanRow) (o : Option Part)
        → IsFetched (of_own need.tapes need.clips need.offers) (option_map (view_at c (own_rows c rows)) p) o
        → IsFetched need (option_map (view_at c rows) p) (with_sources sources o)
    by None None f = f
    by None (Some it) f = absurd f
    by (Some p) None f = absurd f
    by (Some p) (Some it) f = record {
      plan = f.plan;
      tapes = subst (λ ts. AreTapeAnswers need.tapes (listed ts) it.tapes) (alone rows.tapes) f.tapes;
      clips = subst (λ ks. AreClipAnswers need.clips (listed ks) it.clips) (alone rows.clips) f.clips;
      offers = subst (λ os. AreOfferAnswers need.offers (listed os) it.offers) (alone rows.offers) f.offers;
      day = day_is need.day p it no_day f.day;
      aired = aired_is need.aired p it none_aired f.aired;
      sources =
          subst
          (λ d. AreSourceAnswers need.sources (items_asked need.items d) (names_asked need.named)
          (rows_of c rows.clips) (grants_to c rows.offers) sources.clips.items sources.grants.items) (sym f.day) named;
    }

-- where it asks for no source, the part of own rows is that part
pub part_alone : (rows : Centre) (c : ℕ) (need : Need) (part : Option Part) → is_some need.day ≡ false
    → is_some need.aired ≡ false → need.sources ≡ Nothing → IsFetched need (view_of c (own_rows c rows)) part
    → IsFetched need (view_of c rows) part
unfolding view_of
part_alone rows c need part no_day none_aired none fetched =
    by (plan_of c rows) part
    (subst (λ o. IsFetched need (option_map (view_at c (own_rows c rows)) o) part) (plan_same rows c) fetched)
  where
    alone : {A : Type 0} (t : RowTable A) → rows_of c (filter (λ r. r.0 == c) t) ≡ rows_of c t
    alone t = rows_of-part (λ k. k == c) c (itself c) t

    day_is : (o : Option ℕ) (p : PlanRow) (it : Part) → is_some o ≡ false → IsDayAnswer o p (listed []) it.day
        → IsDayAnswer o p (listed (rows_of c rows.days)) it.day
    day_is None p it none is = is
    day_is (Some n) p it none is = absurd (cc)

    aired_is : (o : Option ℕ) (p : PlanRow) (it : Part) → is_some o ≡ false → IsAiringAnswer o p (listed []) it.aired
        → IsAiringAnswer o p (listed (rows_of c rows.aired)) it.aired
    aired_is None p it none is = is
    aired_is (Some n) p it none is = absurd (cc)

    by : (p : Option PlanRow) (o : Option Part) → IsFetched need (option_map (view_at c (own_rows c rows)) p) o
        → IsFetched need (option_map (view_at c rows) p) o
    by None None f = f
    by None (Some it) f = absurd f
    by (Some p) None f = absurd f
    by (Some p) (Some it) f = record {
      plan = f.plan;
      tapes = subst (λ ts. AreTapeAnswers need.tapes (listed ts) it.tapes) (alone rows.tapes) f.tapes;
      clips = subst (λ ks. AreClipAnswers need.clips (listed ks) it.clips) (alone rows.clips) f.clips;
      offers = subst (λ os. AreOfferAnswers need.offers (listed os) it.offers) (alone rows.offers) f.offers;
      day = day_is need.day p it no_day f.day;
      aired = aired_is need.aired p it none_aired f.aired;
      sources =
          subst
          (λ asked. AreSourceAnswers asked (items_asked need.items it.day) (names_asked need.named)
          (rows_of c rows.clips) (grants_to c rows.offers) it.sources.clips.items it.sources.grants.items) (sym none)
          (subst
          (λ asked. AreSourceAnswers asked (items_asked need.items it.day) (names_asked need.named)
          (rows_of c (own_rows c rows).clips) (grants_to c (own_rows c rows).offers) it.sources.clips.items
          it.sources.grants.items) none f.sources);
    }

-- where the channel isn't in the plan, there is no part, and no table
pub no_view : (rows : Centre) (c : ℕ) → plan_of c rows ≡ None → view_of c rows ≡ None
unfolding view_of
no_view rows c none = ap (option_map (view_at c rows)) none

pub some_view : (rows : Centre) (c : ℕ) (p : PlanRow) → plan_of c rows ≡ Some p → is_some (view_of c rows) ≡ true
unfolding view_of
some_view rows c p known = ap (λ o. is_some (option_map (view_at c rows) o)) known

pub none_fetched : (view : Option _) (need : Need) → view ≡ None → IsFetched need view None
none_fetched None need none = tt
none_fetched (Some v) need none = absurd (cc)

-- whether it is in the plan can be seen in its own rows
pub planned_alone : (rows : Centre) (c : ℕ) → is_some (view_of c (own_rows c rows)) ≡ is_some (view_of c rows)
unfolding view_of
planned_alone rows c =
    ap (λ o. is_some (option_map (view_at c (own_rows c rows)) o)) (plan_same rows c) ∙ by (plan_of c rows)
  where
    by : (p : Option PlanRow)
        → is_some (option_map (view_at c (own_rows c rows)) p) ≡ is_some (option_map (view_at c rows) p)
    by None = refl
    by (Some p) = refl

-- a table of own rows
pub text_alone : (rows : Centre) (c : ℕ) (table : Table) → is_at_hand table ≡ true → table ≢ Lent
    → text_at table (view_of c (own_rows c rows)) ≡ text_at table (view_of c rows)
unfolding view_of text_seen
text_alone rows c table is other =
    ap (λ o. text_at table (option_map (view_at c (own_rows c rows)) o)) (plan_same rows c)
    ∙ by table is other (plan_of c rows)
  where
    alone : {A : Type 0} (t : RowTable A) → rows_of c (filter (λ r. r.0 == c) t) ≡ rows_of c t
    alone t = rows_of-part (λ k. k == c) c (itself c) t

    by : (t : Table) → is_at_hand t ≡ true → t ≢ Lent → (p : Option PlanRow)
        → text_at t (option_map (view_at c (own_rows c rows)) p) ≡ text_at t (option_map (view_at c rows) p)
    by t is other None = refl
    by VaultTable is other (Some p) = ap (vault_text p) (alone rows.tapes)
    by Clips is other (Some p) = ap (clip_text p.rate) (alone rows.clips)
    by Offers is other (Some p) = ap offer_text (alone rows.offers)
    by Lent is other (Some p) = absurd (other refl)
    by Days is other (Some p) = absurd (cc)

-- the table of what is lent
pub text_lent : (rows : Centre) (vaults : List Vault) (c : ℕ) (p : PlanRow) (table : Table) → AreVaults rows vaults
    → plan_of c rows ≡ Some p → table ≡ Lent → lent_text (lent_in c vaults) ≡ text_at table (view_of c rows)
unfolding view_of text_seen
text_lent rows vaults c p table at known is =
    ap lent_text (lent_all c rows vaults at)
    ∙ ap (λ o. text_at Lent (option_map (view_at c rows) o)) (sym known)
    ∙ ap (λ t. text_at t (view_of c rows)) (sym is)

-- ---- a change of own rows

module _ (rows : Centre) (c : ℕ) (put : Put) where
  -- made in the own rows of its channel, it leaves those of the rows that it leaves
  pub own_after : KeepsRules rows → (change : VaultChange)
      → changed c (OnVault put change) (own_rows c rows) ≡ own_rows c (changed c (OnVault put change) rows)
  unfolding changed
  own_after rules (TapeRow t) =
      sym
      (λ i. record (own_rows c rows) {
        tapes = replace-in (λ k. k == c) c (λ u. u.n) (itself c) t rows.tapes (in_order rows rules).0 i;
      })
  own_after rules (ClipRow k) =
      sym
      (λ i. record (own_rows c rows) {
        clips = replace-in (λ j. j == c) c (λ u. u.n) (itself c) k rows.clips (in_order rows rules).1 i;
      })
  own_after rules (OfferRow o) =
      sym
      (λ i. record (own_rows c rows) {
        offers = replace-in (λ k. k == c) c (λ u. u.n) (itself c) o rows.offers (in_order rows rules).2 i;
      })

  -- those of another channel stay
  pub others_stay : (d : ℕ) → (c == d) ≡ false → (change : VaultChange)
      → own_rows d (changed c (OnVault put change) rows) ≡ own_rows d rows
  unfolding changed
  others_stay d other (TapeRow t) =
      λ i. record (own_rows d rows) { tapes = replace-out (λ k. k == d) c (λ u. u.n) other t rows.tapes i }
  others_stay d other (ClipRow k) =
      λ i. record (own_rows d rows) { clips = replace-out (λ j. j == d) c (λ u. u.n) other k rows.clips i }
  others_stay d other (OfferRow o) =
      λ i. record (own_rows d rows) { offers = replace-out (λ k. k == d) c (λ u. u.n) other o rows.offers i }

  -- it rests on own rows alone
  own_asked : (p : PlanRow) → (seen_by c p rows).own ≡ (seen_by c p (own_rows c rows)).own
  own_asked p =
      ap (λ s. s.own) (seen_is c p rows) ∙ ap own_seen (sym (own_of-part (λ k. k == c) rows c (itself c) p))
      ∙ sym (ap (λ s. s.own) (seen_is c p (own_rows c rows)))

  -- so it is one of them
  pub change_alone : (change : VaultChange) → IsChangeOf c (OnVault put change) rows
      → IsChangeOf c (OnVault put change) (own_rows c rows)
  unfolding decision
  change_alone change (q, p, known, is) = by q is
    where
      by : (q : Command) → OnVault put change ≡ (decision (seen_by c p rows) q).1
          → IsChangeOf c (OnVault put change) (own_rows c rows)
      by (commands.Vault asked) is =
          (commands.Vault asked, p, plan_same rows c ∙ known, is ∙ ap (λ s. (vault_decision s asked).1) (own_asked p))
      by (commands.Day n asked) is = absurd (subst IsOfDay (sym is) (day_change_asked (seen_by c p rows) n asked))
      by (commands.Airing n asked) is =
          absurd (subst IsOfDay (sym is) (airing_change_asked (seen_by c p rows) n asked))
      by commands.PlanRow is = absurd (cc)
      by (commands.Table table) is = absurd (cc)

-- ---- the vaults in their places

module _ (rows after : Centre) (c : ℕ) (others : (d : ℕ) → (c == d) ≡ false → own_rows d after ≡ own_rows d rows) where
  rest_stays : (ps : List PlanRow) → list_all (λ q. nat_lt c q.ch) ps ≡ true
      → map (λ p. vault_of p.ch rows) ps ≡ map (λ p. vault_of p.ch after) ps
  rest_stays [] past = refl
  rest_stays (p ∷ ps) past =
      let other : (c == p.ch) ≡ false = grind (arith, nat_tests, past) in
      let same = others p.ch other in
      λ i. (record { channel = p.ch; rows = sym same i }) ∷ rest_stays ps (grind (arith, past)) i

  -- a vault that stands behind is of a channel behind
  behind : (a k : ℕ) (ps : List PlanRow) (v : Vault) → list_all (λ q. nat_lt a q.ch) ps ≡ true → k < length ps
      → nat_lt a (get_or (map (λ p. vault_of p.ch rows) ps) k v).channel ≡ true
  behind a k [] v past lt = absurd (omega arith)
  behind a zero (p ∷ ps) v past lt = grind (arith, past)
  behind a (suc k) (p ∷ ps) v past lt = behind a k ps v (grind (arith, past)) (omega arith)

  -- the vault at the place of channel c is its own
  pub at_place : (ps : List PlanRow) (k : ℕ) (v : Vault) → k < length ps
      → (get_or (map (λ p. vault_of p.ch rows) ps) k v).channel ≡ c
      → get_or (map (λ p. vault_of p.ch rows) ps) k v ≡ vault_of c rows
  at_place [] k v lt is = absurd (omega arith)
  at_place (p ∷ ps) zero v lt is = ap (λ d. vault_of d rows) is
  at_place (p ∷ ps) (suc k) v lt is = at_place ps k v (omega arith) is

  -- the new vault in that place makes all of them those of the rows that are left
  pub placed : (ps : List PlanRow) (k : ℕ) (v : Vault) → is_plan_in_order ps ≡ true → k < length ps
      → (get_or (map (λ p. vault_of p.ch rows) ps) k v).channel ≡ c
      → set (map (λ p. vault_of p.ch rows) ps) k (vault_of c after) ≡ map (λ p. vault_of p.ch after) ps
  placed [] k v order lt is = absurd (omega arith)
  placed (p ∷ ps) zero v order lt is =
      let past : list_all (λ q. nat_lt c q.ch) ps ≡ true =
      ap (λ d. list_all (λ (q : PlanRow). nat_lt d q.ch) ps) (sym is) ∙ grind (arith, order) in
      λ i. vault_of (sym is i) after ∷ rest_stays ps past i
  placed (p ∷ ps) (suc k) v order lt is =
      let less = behind p.ch k ps v (grind (arith, order)) (omega arith) in
      let other : (c == p.ch) ≡ false = grind (arith, nat_tests, less, is) in
      let same = others p.ch other in
      λ i. (record { channel = p.ch; rows = sym same i }) ∷ placed ps k v (grind (arith, order)) (omega arith) is i

same_read : {X : Type 0} (xs : List X) (k : ℕ) (d e : X) → k < length xs → get_or xs k d ≡ get_or xs k e
same_read [] k d e lt = absurd (omega arith)
same_read (x ∷ xs) zero d e lt = refl
same_read (x ∷ xs) (suc k) d e lt = same_read xs k d e (omega arith)

plan_left : (rows : Centre) (c : ℕ) (put : Put) (own : VaultChange)
    → (changed c (OnVault put own) rows).channels ≡ rows.channels
unfolding changed
plan_left rows c put (TapeRow t) = refl
plan_left rows c put (ClipRow k) = refl
plan_left rows c put (OfferRow o) = refl

-- a change that is made of the vault of its channel makes the vaults those of the rows that it leaves
module _ {E : Type 0} (r : Result (Unit {0}) E) (rows after : Centre) (vaults : List Vault) (c k : ℕ) (old seen : Vault)
    (at : AreVaults rows vaults) (lt : k < length vaults) (read : old ≡ get_or vaults k old)
    (look : seen ≡ get_or vaults k seen) (mine : seen.channel ≡ c) where
  abbrev Commits : Change → Type 0
  Commits change =
      (set : Centre) → (old.rows ≡ set) × KeepsRules set → IsChangeOf c change set
      → OnOk r ((after ≡ changed c change set) × KeepsRules (changed c change set))

  abbrev Committed : Change → Type 0
  Committed change =
      OnOk r (AreVaults (changed c change rows) (set vaults k (record { channel = old.channel; rows = after })))

  within : k < length rows.channels
  within = omega (arith, lt, ap length at.are, length-map rows.channels (λ p. vault_of p.ch rows))

  its : (get_or (vaults_in rows) k old).channel ≡ c
  its =
      ap (λ v. v.channel) (ap (λ vs. get_or vs k old) (sym at.are) ∙ same_read vaults k old seen lt ∙ sym look) ∙ mine

  module _ (put : Put) (own : VaultChange) where
    abbrev left : Centre
    left = changed c (OnVault put own) rows

    others : (d : ℕ) → (c == d) ≡ false → own_rows d left ≡ own_rows d rows
    others d other = others_stay rows c put d other own

    is_own : old ≡ vault_of c rows
    is_own = read ∙ ap (λ vs. get_or vs k old) at.are ∙ at_place rows left c others rows.channels k old within its

    now_of : (after ≡ changed c (OnVault put own) (own_rows c rows))
        → set vaults k (record { channel = old.channel; rows = after }) ≡ vaults_in left
    now_of made =
        let rows_are = made ∙ own_after rows c put at.rules own in
        let channel_is = ap (λ v. v.channel) is_own in
        (λ i. set (at.are i) k (record { channel = channel_is i; rows = rows_are i }))
        ∙ placed rows left c others rows.channels k old at.rules.plan within its
        ∙ ap (map (λ p. vault_of p.ch left)) (sym (plan_left rows c put own))

    of_vault : IsChangeOf c (OnVault put own) rows → Commits (OnVault put own) → Committed (OnVault put own)
    of_vault is made =
        on_ok_weaker r
        (λ done. record { rules = change_keeps rows c (OnVault put own) at.rules is; are = now_of done.0 })
        (made (own_rows c rows) (ap (λ v. v.rows) is_own, own_keep rows c at.rules) (change_alone rows c put own is))

  pub committed : (change : Change) (put : Put) (own : VaultChange) → change ≡ OnVault put own
      → IsChangeOf c change rows → Commits change → Committed change
  committed change put own same =
      subst (λ ch. IsChangeOf c ch rows → Commits ch → Committed ch) (sym same) (of_vault put own)

-- ---- the loops over all vaults

-- what one vault more lends
pub lent_more : (c : ℕ) (vaults : List Vault) (k : ℕ) (v : Vault) (front more : List Grant) → k < length vaults
    → v ≡ get_or vaults k v → front ≡ lent_in c (take k vaults) → more ≡ grants_to c v.rows.offers
    → front ++ more ≡ lent_in c (take (k + 1) vaults)
lent_more c vaults k v front more lt read so_far its =
    let f = λ (w : Vault). grants_to c w.rows.offers in
    (λ j. so_far j ++ its j)
    ∙ ap (λ l. flat_map f (take k vaults) ++ l) (ap f read ∙ sym (append-nil (f (get_or vaults k v))))
    ∙ sym (flat_map-append f (take k vaults) (get_or vaults k v ∷ []))
    ∙ ap (flat_map f) (sym (take_more vaults k v lt))

-- one vault more
pub vault_more : (rows : Centre) (plan : List PlanRow) (k : ℕ) (p : PlanRow) (front : List Vault) (v : Vault)
    → k < length plan → p ≡ get_or plan k p → front ≡ map (λ q. vault_of q.ch rows) (take k plan)
    → v ≡ vault_of p.ch rows → front ++ v ∷ [] ≡ map (λ q. vault_of q.ch rows) (take (k + 1) plan)
vault_more rows plan k p front v lt read so_far its =
    let f = λ (q : PlanRow). vault_of q.ch rows in
    (λ j. so_far j ++ its j ∷ [])
    ∙ ap (λ q. map f (take k plan) ++ f q ∷ []) read
    ∙ sym (map_more f plan k p lt)

-- ---- their order

-- the vaults of channels in order are in order
pub vaults_rise : (rows : Centre) (ps : List PlanRow) → IsNonDecreasingBy (λ p. p.ch) ps
    → IsNonDecreasingBy (λ v. v.channel) (map (λ p. vault_of p.ch rows) ps)
vaults_rise rows [] order i j d le lt = absurd (omega arith)
vaults_rise rows (p ∷ ps) order i j d le lt =
    let f = λ (q : PlanRow). vault_of q.ch rows in
    let within : j < length (p ∷ ps) = omega (arith, length-map (p ∷ ps) f, lt) in
    let low = ap (λ (v : Vault). v.channel) (get_or-map f (p ∷ ps) i p d (omega arith)) in
    let high = ap (λ (v : Vault). v.channel) (get_or-map f (p ∷ ps) j p d within) in
    let rise = order i j p le within in
    omega (arith, low, high, rise)
