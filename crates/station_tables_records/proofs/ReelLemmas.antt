-- The texts of sources and kinds read as these.
use Rattle.std.proofs.Common.{◌≡◌, ℕ, true, false, List, [], ◌∷◌, length, Some, None, refl, sym, ap, ap₂, ◌∙◌, arith}
use Rattle.std.proofs.Common.{true≢false}
use Rattle.std.specs.Prelude.{◌==◌, ◌&&◌, codes}
use Rattle.std.specs.List.{list_all}
use Rattle.std.proofs.lemmas.Slice.Eq.{bytes_eq-Decides}
use Rattle.std.proofs.lemmas.Bool.Decides.{nat_tests}
use Rattle.playlist_core.specs.declared.source.Source.{Source}
use Rattle.playlist_core.specs.declared.source.Source.TheVariants.{Black, Bars, Own, Lent}
use Rattle.playlist_core.specs.declared.item.Item.{Item}
use Rattle.playlist_core.specs.declared.item.EditKind.{EditKind}
use Rattle.playlist_core.specs.declared.item.EditKind.TheVariants.{Cut, Dissolve, Wipe}
use Rattle.playlist_core.specs.Source.{source_reel, source_of_reel, is_source}
use Rattle.playlist_core.specs.Item.{kind_text, kind_of, is_kind, is_item}
use Rattle.playlist_core.proofs.ReelLemmas.{reel_is, word_is, wipe_length}
use Rattle.station_tables_records.specs.MadeDays.{is_short_name, is_full_word, has_texts}
pub use Rattle.playlist_core.proofs.ReelLemmas.{source_again, kind_again}

-- the texts of items whose kinds are in range, and whose reels name their sources
pub texts_held : (items : List Item) → list_all is_item items ≡ true → list_all (λ i. is_source i.src) items ≡ true
    → list_all has_texts items ≡ true
texts_held [] fields reels = refl
texts_held (i ∷ is) fields reels =
    let kind : is_kind i.kind ≡ true = grind (arith, nat_tests, fields) in
    let reel : is_source i.src ≡ true = grind (arith, nat_tests, reels) in
    ap₂ ◌&&◌ (ap₂ ◌&&◌ reel kind) (texts_held is (grind (arith, nat_tests, fields)) (grind (arith, nat_tests, reels)))

pub short_reel : (text : List ℕ) (s : Source) → source_of_reel text ≡ Some s → is_short_name s text ≡ true
    → source_reel s ≡ text
short_reel text s is short =
    reel_is text s is
    (λ black. (bytes_eq-Decides text (codes "BL")).0 (ap (λ t. is_short_name t text) (sym black) ∙ short))

pub full_word : (text : List ℕ) (k : EditKind) → kind_of text ≡ Some k → is_full_word k text ≡ true → kind_text k ≡ text
full_word text k is full =
    word_is text k is
    (λ n wiped. let four : (length text == 4) ≡ true = ap (λ j. is_full_word j text) (sym wiped) ∙ full in
    grind (arith, nat_tests, four))

-- a text that names no source is the reel of none, and neither is the long name of black
pub no_source : (text : List ℕ) → source_of_reel text ≡ None → (s : Source) → is_source s ≡ true → source_reel s ≡ text
    → ⊥
no_source text none s is same =
    let again : source_of_reel text ≡ Some s = ap source_of_reel (sym same) ∙ source_again s is in
    absurd (let never = sym none ∙ again in cc)

short_itself : (s : Source) → is_short_name s (source_reel s) ≡ true
short_itself Black = refl
short_itself Bars = refl
short_itself (Own n) = refl
short_itself (Lent owner n) = refl

pub long_name : (text : List ℕ) (t : Source) → source_of_reel text ≡ Some t → is_short_name t text ≡ false
    → (s : Source) → is_source s ≡ true → source_reel s ≡ text → ⊥
long_name text t named long s is same =
    let again : source_of_reel text ≡ Some s = ap source_of_reel (sym same) ∙ source_again s is in
    let both : t ≡ s = let found = sym named ∙ again in cc in
    true≢false (sym (short_itself s) ∙ ap (is_short_name s) same ∙ ap (λ u. is_short_name u text) (sym both) ∙ long)

pub no_kind : (text : List ℕ) → kind_of text ≡ None → (k : EditKind) → is_kind k ≡ true → kind_text k ≡ text → ⊥
no_kind text none k is same =
    let again : kind_of text ≡ Some k = ap kind_of (sym same) ∙ kind_again k is in
    absurd (let never = sym none ∙ again in cc)

full_itself : (k : EditKind) → is_kind k ≡ true → is_full_word k (kind_text k) ≡ true
full_itself Cut is = refl
full_itself Dissolve is = refl
full_itself (Wipe n) is = ap (λ l. l == 4) (wipe_length n is)

pub short_word : (text : List ℕ) (j : EditKind) → kind_of text ≡ Some j → is_full_word j text ≡ false → (k : EditKind)
    → is_kind k ≡ true → kind_text k ≡ text → ⊥
short_word text j said short k is same =
    let again : kind_of text ≡ Some k = ap kind_of (sym same) ∙ kind_again k is in
    let both : j ≡ k = let found = sym said ∙ again in cc in
    true≢false (sym (full_itself k is) ∙ ap (is_full_word k) same ∙ ap (λ u. is_full_word u text) (sym both) ∙ short)
