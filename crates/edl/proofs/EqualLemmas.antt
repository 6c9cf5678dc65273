-- Events are equal just where they say the same.
use Rattle.std.proofs.Common.{◌≡◌, ◌↔◌, ℕ, true, nat_eq, Option, Some, None, ap, subst, refl}
use Rattle.std.proofs.lemmas.Bool.{and_parts, eqb-true}
use Rattle.std.specs.Prelude.{IsTrue}
use Rattle.std.specs.Option.{option_eq}
use Rattle.std.specs.Cmp.{booleans_Decides}
use Rattle.std.specs.Cmp.Lexicographic.{pointwise_decides, bytes_decides}
use Rattle.edl.specs.Entry.{EventEntry}
use Rattle.edl.specs.Equal.{entry_eq}
use Rattle.edl.specs.EqualLaws.{entries_equiv}

same_option : (x y : Option ℕ) → option_eq nat_eq x y ≡ true → x ≡ y
same_option None None h = refl
same_option None (Some y) h = absurd (cc h)
same_option (Some x) None h = absurd (cc h)
same_option (Some x) (Some y) h = ap Some (eqb-true x y h)

same_entry : (a b : EventEntry) → entry_eq a b ≡ true → a ≡ b
same_entry a b h =
    let notes = and_parts _ _ h in
    let speed = and_parts _ _ notes.0 in
    let parts = and_parts _ _ speed.0 in
    let duration = and_parts _ _ parts.0 in
    let kind = and_parts _ _ duration.0 in
    let channels = and_parts _ _ kind.0 in
    let reel = and_parts _ _ channels.0 in
    let number = and_parts _ _ reel.0 in
    let length = and_parts _ _ parts.1 in
    let record_first = and_parts _ _ length.0 in
    let source = and_parts _ _ record_first.0 in
    λ i. record {
      line = eqb-true a.line b.line number.0 i;
      number = eqb-true a.number b.number number.1 i;
      reel = (bytes_decides a.reel b.reel).0 reel.1 i;
      channels = (bytes_decides a.channels b.channels).0 channels.1 i;
      kind = (bytes_decides a.kind b.kind).0 kind.1 i;
      duration = same_option a.duration b.duration duration.1 i;
      source_first = eqb-true a.source_first b.source_first source.0 i;
      source_end = eqb-true a.source_end b.source_end source.1 i;
      record_first = eqb-true a.record_first b.record_first record_first.1 i;
      length = eqb-true a.length b.length length.1 i;
      speed = (booleans_Decides a.speed b.speed).0 speed.1 i;
      notes = (pointwise_decides bytes_decides a.notes b.notes).0 notes.1 i;
    }

pub entries_decide : (a b : EventEntry) → IsTrue (entry_eq a b) ↔ (a ≡ b)
entries_decide a b = (same_entry a b, λ e. subst (λ x. entry_eq a x ≡ true) e (entries_equiv.refl a))
