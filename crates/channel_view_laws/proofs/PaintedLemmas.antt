-- What a day with one item more shows.
use Rattle.std.proofs.Common.{◌≡◌, ℕ, ◌+◌, ◌-◌, ◌<◌, ◌≤◌, ◌∷◌, Bool, true, false, sym, ◌∙◌, ap, refl, arith}
use Rattle.std.specs.Prelude.{◌==◌, Some, is_some, if◌then◌else◌}
use Rattle.std.proofs.lemmas.Bool.Decides.{nat_tests}
use Rattle.playlist_core.specs.declared.item.Item.{Item}
use Rattle.playlist_core.specs.Picture.{covers, is_painted}
use Rattle.playlist_core.specs.Item.{planned}
use Rattle.playlist_core.specs.Day.{Day, picture_in, with_item}
use Rattle.playlist_core.proofs.PictureLemmas.{shown, shown_in, is_painted-picture}
use Rattle.playlist_core.proofs.AddLemmas.{picture-with_item}

module _ (day : Day) (item : Item) (q : ℕ) (lt : q < day.frames) where
  shown_with : is_painted (picture_in (with_item item day)) q ≡ is_some (shown planned (item ∷ day.items) q)
  shown_with =
      ap (λ cells. is_painted cells q) (picture-with_item day item)
      ∙ is_painted-picture planned day.frames (item ∷ day.items) q lt

  pub stays_painted : is_painted (picture_in day) q ≡ true → is_painted (picture_in (with_item item day)) q ≡ true
  stays_painted is = shown_with ∙ by (covers item.pos item.frames q)
    where
      by : (b : Bool)
          → is_some (if b then Some ((planned item).shows (q - item.pos)) else shown planned day.items q) ≡ true
      by true = refl
      by false = sym (is_painted-picture planned day.frames day.items q lt) ∙ is

  pub paints : item.pos ≤ q → q < item.pos + item.frames → is_painted (picture_in (with_item item day)) q ≡ true
  paints le within = shown_with ∙ ap is_some (shown_in planned item day.items q le within)

pub not_zero : (n : ℕ) → (n == 0) ≡ false → 0 < n
not_zero n h = grind (arith, nat_tests, h)
