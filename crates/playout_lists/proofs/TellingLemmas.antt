-- What is said, one thing after another.
use Rattle.std.proofs.Common.{◌≡◌, ℕ, List, [], ◌++◌, length, take, arith, sym, ◌∙◌, subst}
use Rattle.std.proofs.lemmas.List.{take_all}
use Rattle.std.proofs.KnownBytes.{Appends-nil, Appends-trans}
use Rattle.std.specs.Io.KnownBytes.{Appends}
use Rattle.playout_lists.specs.Telling.{Told, TellsAll, Tells}

-- nothing was
pub tells_nothing : (told : Told) → TellsAll told told []
tells_nothing told whole = (whole, Appends-nil told.text)

pub tells_none : (told : Told) → Tells told told []
tells_none told = record { all = tells_nothing told; part = (0, Appends-nil told.text) }

-- all of it was taken
pub tells_whole : (old new : Told) (bytes : List ℕ) → new.failed ≡ old.failed → Appends old.text new.text bytes
    → Tells old new bytes
tells_whole old new bytes same whole =
    let full : take (length bytes) bytes ≡ bytes = take_all (length bytes) bytes (omega arith) in
    record {
      all = λ well. (sym same ∙ well, whole);
      part =
          (length bytes, subst (Appends old.text new.text) (sym full) whole);
    }

-- the same text by another name
pub tells_as : (old new : Told) (bytes same : List ℕ) → bytes ≡ same → Tells old new bytes → Tells old new same
tells_as old new bytes same is told = subst (Tells old new) is told

-- one thing and then another
pub tells_then : (old mid new : Told) (before more : List ℕ) → TellsAll old mid before → TellsAll mid new more
    → TellsAll old new (before ++ more)
tells_then old mid new before more first next whole =
    let later = next whole in
    let earlier = first later.0 in
    (earlier.0, Appends-trans old.text mid.text new.text before more earlier.1 later.1)
