-- What answers the question for one source.
use Rattle.std.proofs.Common.{◌≡◌, ℕ, List, [], ◌&&◌, refl, ◌∙◌, ap}
use Rattle.std.specs.Prelude.{◌==◌, find, Option, Some, None}
use Rattle.std.specs.List.{cons_option}
use Rattle.vault_core.specs.declared.clip.Clip.{Clip}
use Rattle.grant_core.specs.declared.grant.Grant.{Grant}
use Rattle.playlist_core.specs.declared.source.Source.TheVariants.{Own as OwnClip, Lent as LentClip}
use Rattle.playlist_core.specs.Source.{of_clip, of_grant}
use Rattle.channel_view_model.specs.Need.{IsSourceAnswer, clips_of, grants_of}

-- what one source names, found by itself
just_clip : (o : Option Clip) → cons_option o [] ≡ clips_of (of_clip o)
just_clip None = refl
just_clip (Some k) = refl

no_grant : (o : Option Clip) → [] ≡ grants_of (of_clip o)
no_grant None = refl
no_grant (Some k) = refl

just_grant : (o : Option Grant) → cons_option o [] ≡ grants_of (of_grant o)
just_grant None = refl
just_grant (Some g) = refl

no_clip : (o : Option Grant) → [] ≡ clips_of (of_grant o)
no_clip None = refl
no_clip (Some g) = refl

module _ (clips : List Clip) (grants : List Grant) where
  pub status_answer : (n : ℕ) (row : Option Clip) (ks : List Clip) (gs : List Grant) → row ≡ find (λ k. k.n == n) clips
      → ks ≡ cons_option row [] → gs ≡ []
      → IsSourceAnswer (OwnClip n) clips grants ks gs
  status_answer n row ks gs is some none =
      let here = find (λ k. k.n == n) clips in
      (some ∙ ap (λ (o : Option Clip). cons_option o []) is ∙ just_clip here, none ∙ no_grant here)

  pub lent_answer : (owner n : ℕ) (row : Option Grant) (ks : List Clip) (gs : List Grant)
      → row ≡ find (λ g. g.owner == owner && g.offer.n == n) grants → ks ≡ [] → gs ≡ cons_option row []
      → IsSourceAnswer (LentClip owner n) clips grants ks gs
  lent_answer owner n row ks gs is none some =
      let here = find (λ g. g.owner == owner && g.offer.n == n) grants in
      (none ∙ no_clip here, some ∙ ap (λ (o : Option Grant). cons_option o []) is ∙ just_grant here)
