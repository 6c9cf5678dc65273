-- Which numbers are taken.
use Rattle.std.proofs.Common.{◌≡◌, ℕ, zero, suc, ◌+◌, ◌<◌, ◌≤◌, List, [], ◌∷◌, length, get_or, set, take, Bool, true}
use Rattle.std.proofs.Common.{false, ◌||◌, sym, ◌∙◌, ap, ⊎_elim, arith, get_or-set_same, get_or-set_other}
use Rattle.std.specs.Prelude.{◌==◌}
use Rattle.std.proofs.lemmas.Bool.{cases_eq}
use Rattle.std.proofs.lemmas.Bool.Decides.{nat_tests}
use Rattle.std.proofs.lemmas.List.Folds.{list_any_more}
use Rattle.playlist_core.specs.declared.item.Item.{Item}
use Rattle.playlist_core.specs.Limits.{most_items}
use Rattle.playlist_core.specs.Picture.{least}
use Rattle.playlist_core.specs.Day.{AreNumbered, has_number}
use Rattle.playlist_core.proofs.PictureLemmas.{least_skip}

number_within : (items : List Item) (i : ℕ) (d : Item) → AreNumbered items → i < length items
    → (get_or items i d).n ≤ most_items
number_within [] i d numbered lt = absurd (omega arith)
number_within (item ∷ items) zero d numbered lt = numbered.1
number_within (item ∷ items) (suc i) d numbered lt = number_within items i d numbered.3 (omega arith)

pub read_within : (items : List Item) (i : ℕ) (d : Item) (n : ℕ) → n ≡ (get_or items i d).n → AreNumbered items
    → i < length items → n ≤ most_items
read_within items i d n read numbered lt = let le = number_within items i d numbered lt in omega arith

-- one item more is marked
pub marked_more : (top : ℕ) (marks : List Bool) (items : List Item) (i : ℕ) (d : Item) (m : ℕ)
    → m ≡ (get_or items i d).n → length marks ≡ top → i < length items → m < top
    → ((n : ℕ) → n < top → get_or marks n false ≡ has_number (take i items) n)
    → (n : ℕ) → n < top → get_or (set marks m true) n false ≡ has_number (take (i + 1) items) n
marked_more top marks items i d m read size lt number before n within =
    let more : has_number (take (i + 1) items) n ≡ (has_number (take i items) n || (m == n)) =
    list_any_more (λ (x : Item). x.n == n) items i d lt
    ∙ ap (λ k. has_number (take i items) n || (k == n)) (sym read) in
    ⊎_elim
    (λ same. let here : get_or (set marks m true) m false ≡ true = get_or-set_same marks m true false (omega arith) in
    ap (λ k. get_or (set marks m true) k false) (sym same) ∙ here ∙ sym (more ∙ grind (arith, nat_tests, same)))
    (λ other. get_or-set_other marks m n true false (λ e. other (sym e)) ∙ before n within
    ∙ sym (more ∙ grind (arith, nat_tests, other)))
    (cases_eq m n)

-- a number that fails is passed over
pub least_next : (f : ℕ → Bool) (p n m : ℕ) → f p ≡ false → m ≡ n + 1 → least f p m ≡ least f (p + 1) n
least_next f p n m fails more =
    let one : m ≡ 1 + n = omega arith in
    ap (least f p) one ∙ least_skip f p 1 n (λ q le lt. let here : q ≡ p = omega arith in ap f here ∙ fails)
