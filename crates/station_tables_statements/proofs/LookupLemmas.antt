-- What a look-up finds, as what one channel's rows answer.
use Rattle.std.proofs.Common.{◌≡◌, ℕ, ◌+◌, List, [], ◌∷◌, ◌++◌, length, map, filter, take, reverse, unwrap_or, refl}
use Rattle.std.proofs.Common.{◌∙◌, ap, true, arith}
use Rattle.std.specs.Prelude.{◌==◌, slice_get}
use Rattle.std.specs.Option.{option_map}
use Rattle.std.proofs.lemmas.Bool.Decides.{nat_tests}
use Rattle.std.proofs.lemmas.List.{reverse-append}
use Rattle.std.proofs.lemmas.List.Sums.{length-filter}
use Rattle.vault_core.specs.Rules.{is_numbered_from}
use Rattle.channel_view_model.specs.Tables.{rows_of, of_channel}
use Rattle.station_tables_records.specs.Numbered.{is_of}

module _ {A : Type 0} (number : A → ℕ) where
  -- the number of the first, or n where there is none
  abbrev pub number_or : ℕ → List (ℕ × A) → ℕ
  number_or n rows = unwrap_or (option_map (λ (r : ℕ × A). number r.1) (slice_get rows 0)) n

  behind : (n : ℕ) (r : ℕ × A) (rows : List (ℕ × A))
      → number_or n (take 1 (rows ++ r ∷ [])) ≡ number_or (number r.1) (take 1 rows)
  behind n r [] = refl
  behind n r (s ∷ rows) = refl

  last_number : (rows : List (ℕ × A)) (n : ℕ) → is_numbered_from number (n + 1) (map (λ (r : ℕ × A). r.1) rows) ≡ true
      → number_or n (take 1 (reverse rows)) ≡ n + length rows
  last_number [] n numbered = omega arith
  last_number (r ∷ rows) n numbered =
      let first : number r.1 ≡ n + 1 = grind (arith, nat_tests, numbered) in
      let rest = last_number rows (n + 1) (grind (arith, numbered)) in
      ap (λ l. number_or n (take 1 l)) (reverse-append (r ∷ []) rows) ∙ behind n r (reverse rows)
      ∙ ap (λ k. number_or k (take 1 (reverse rows))) first ∙ rest ∙ omega arith

  -- numbers have no hole, so the last one says how many there are
  pub last_is_count : (c : ℕ) (table found : List (ℕ × A)) → is_numbered_from number 1 (rows_of c table) ≡ true
      → found ≡ take 1 (reverse (filter (is_of c) table))
      → number_or 0 found ≡ (of_channel c table).count
  last_is_count c table found numbered is =
      let own = filter (λ (r : ℕ × A). r.0 == c) table in
      let last : number_or 0 (take 1 (reverse own)) ≡ length own = last_number own 0 numbered ∙ omega arith in
      ap (number_or 0) is ∙ last ∙ length-filter (λ (r : ℕ × A). r.0 == c) table
