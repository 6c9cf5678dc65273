-- `with_vaults`: the tables with the vaults of all channels at hand.
use Rattle.std.proofs.Common.{◌≡◌, ◌≤◌, ℕ, [], ◌∙◌, Option, Some, None, IfSome, sym, ap, subst}
use Rattle.std.proofs.lemmas.List.Elements.{All-nil}
use Rattle.sqlite.specs.State.{HasCleanDisk}
use Rattle.sqlite.specs.Held.{state}
use Rattle.channel_view_model.specs.Centre.{Centre}
use Rattle.channel_view_model.specs.Rules.{KeepsRules}
use Rattle.rows_at_hand.specs.declared.vaults.Vaults.{Vaults}
use Rattle.rows_at_hand.specs.AtHand.{AreVaultsOf}
use Rattle.rows_at_hand.specs.Counted.{AreCounted, IsCounted}
use Rattle.rows_at_hand.specs.Vaults.{vaults_in}
use Rattle.station_tables_reading.specs.Vaults.{AreVaultsRead, bytes_of}
use Rattle.station_tables.specs.Store.{StandsWithPlan}
use Rattle.station_tables_writing.specs.Tables.{MayLeave}
use Rattle.playout_cli.specs.Vaults.{most_vault_bytes}
use Rattle.playout_cli.proofs.vaults.with_vaults.Goals as goal

-- the vaults at hand are those of a set
abbrev AreMade : Option Centre → Option Vaults → Type 0
AreMade o v = IfSome v (λ vaults. (set : Centre) × (o ≡ Some set) × (vaults.each.items ≡ vaults_in set))

-- what was read is at hand
at_hand : (rows read : Centre) (o : Option Centre) (v : Option Vaults) → KeepsRules rows
    → read ≡ record rows { days = []; aired = [] } → IfSome o (λ m. m ≡ read) → AreMade o v
    → IfSome v (AreVaultsOf rows)
at_hand rows read o None rules is same made = tt
at_hand rows read o (Some vaults) rules is same (set, whole, are) =
    record {
      rules = rules;
      are = are ∙ ap vaults_in (subst (λ r. IfSome r (λ m. m ≡ read)) whole same ∙ is);
    }

few_at_hand : (most : ℕ) (read : Centre) (o : Option Centre) (v : Option Vaults) → bytes_of read ≤ most
    → IfSome o (λ m. m ≡ read) → AreMade o v
    → IfSome v (λ vaults. (read : Centre) × (vaults.each.items ≡ vaults_in read) × (bytes_of read ≤ most))
few_at_hand most read o None few same made = tt
few_at_hand most read o (Some vaults) few same (set, whole, are) =
    (read, are ∙ ap vaults_in (subst (λ r. IfSome r (λ m. m ≡ read)) whole same), few)

-- nothing was
none_at_hand : (P : Vaults → Type 0) (v : Option Vaults) → AreMade None v → IfSome v P
none_at_hand P None made = tt
none_at_hand P (Some vaults) (set, never, are) = absurd (cc)

pub returns-in-Ok-Some-clause-stands : goal.returns-in-Ok-Some-clause-stands
returns-in-Ok-Some-clause-stands g c clean rows stands =
    let same = ap (λ d. d.store) c.over.ensures.store ∙ c.over-counted.ensures.store in
    let none = ap (λ d. d.channels.items) c.over.ensures.store ∙ c.over-counted.ensures.none in
    let now = subst (λ t. HasCleanDisk (state g.S.Store t.conn)) same clean in
    let read =
    subst (AreVaultsRead rows most_vault_bytes) c.in-Ok-Some.field-0-is (c.in-Ok-Some.ensures.vaults now rows stands)
    in (
      (
        subst (λ t. StandsWithPlan g.S.Store t rows) (sym same) (c.vaults.ensures.same now rows stands),
        subst (AreCounted rows) (sym none) (All-nil (IsCounted rows)),
      ),
      at_hand rows c.in-Ok-Some.rows c.from_rows.result c.over.result.vaults
          (c.in-Ok-Some.ensures.rules now rows stands) read c.from_rows.ensures.rows c.over.ensures.vaults,
    )

pub returns-in-Ok-Some-clause-few : goal.returns-in-Ok-Some-clause-few
returns-in-Ok-Some-clause-few g c =
    let few =
    subst (λ o. IfSome o (λ v. bytes_of v ≤ most_vault_bytes)) c.in-Ok-Some.field-0-is c.in-Ok-Some.ensures.few in
    few_at_hand most_vault_bytes c.in-Ok-Some.rows c.from_rows.result c.over.result.vaults few
    c.from_rows.ensures.rows c.over.ensures.vaults

pub returns-in-Ok-Some-clause-stop : goal.returns-in-Ok-Some-clause-stop
returns-in-Ok-Some-clause-stop g c clean left may =
    let same = ap (λ d. d.store) c.over.ensures.store ∙ c.over-counted.ensures.store in
    c.vaults.ensures.stop (subst (λ t. HasCleanDisk (state g.S.Store t.conn)) same clean) left
    (subst (λ t. MayLeave (state g.S.Store t.conn) left) same may)

pub returns-in-Ok-None-clause-stands : goal.returns-in-Ok-None-clause-stands
returns-in-Ok-None-clause-stands g c clean rows stands =
    let same =
    ap (λ d. d.store) c.over-in-Ok-None.ensures.store ∙ c.over-counted-in-Ok-None.ensures.store in
    let none =
    ap (λ d. d.channels.items) c.over-in-Ok-None.ensures.store ∙ c.over-counted-in-Ok-None.ensures.none in (
      (
        subst (λ t. StandsWithPlan g.S.Store t rows) (sym same)
            (c.vaults.ensures.same (subst (λ t. HasCleanDisk (state g.S.Store t.conn)) same clean) rows stands),
        subst (AreCounted rows) (sym none) (All-nil (IsCounted rows)),
      ),
      none_at_hand _ c.over-in-Ok-None.result.vaults c.over-in-Ok-None.ensures.vaults,
    )

pub returns-in-Ok-None-clause-few : goal.returns-in-Ok-None-clause-few
returns-in-Ok-None-clause-few g c = none_at_hand _ c.over-in-Ok-None.result.vaults c.over-in-Ok-None.ensures.vaults

pub returns-in-Ok-None-clause-stop : goal.returns-in-Ok-None-clause-stop
returns-in-Ok-None-clause-stop g c clean left may =
    let same =
    ap (λ d. d.store) c.over-in-Ok-None.ensures.store ∙ c.over-counted-in-Ok-None.ensures.store in
    c.vaults.ensures.stop (subst (λ t. HasCleanDisk (state g.S.Store t.conn)) same clean) left
    (subst (λ t. MayLeave (state g.S.Store t.conn) left) same may)
