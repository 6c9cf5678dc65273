-- `Umid::from_bytes`: the UMID of 32 bytes.
use Rattle.std.proofs.Common.{◌≡◌, length, arith, rules}
use Rattle.umid.proofs.UmidLemmas.{HasFixedBytes, IsBasicUmid-from_fixed}
use Rattle.umid.proofs.ReadingLemmas.{reading_is}
use Rattle.umid.proofs.Umid.from_bytes.Goals as goal

pub invariant_of-result : goal.invariant_of-result
invariant_of-result c =
    let count : length c.in-Ok.bytes ≡ 32 = omega arith in
    let fixed : HasFixedBytes c.in-Ok.bytes = record {
      count = count;
      first = omega arith;
      second = omega arith;
      third = omega arith;
      fourth = omega arith;
      fifth = omega arith;
      sixth = omega arith;
      seventh = omega arith;
      ninth = omega arith;
      tenth = omega arith;
      thirteenth = omega arith;
    } in
    IsBasicUmid-from_fixed c.in-Ok.bytes fixed (λ i. rw c.in-Ok.ensures.1.same (omega (arith, c.type_inv.bytes i)))

pub returns-clause-reading : goal.returns-clause-reading
returns-clause-reading c = rw (← c.in-Ok.ensures.1.same) (invariant_of-result c)

pub returns-clause-value : goal.returns-clause-value
returns-clause-value c =
    reading_is c.args.bytes.now _ (λ i. omega (arith, c.type_inv.bytes i)) (returns-clause-reading c)

pub returns-then-is_extended-clause-value : goal.returns-then-is_extended-clause-value
returns-then-is_extended-clause-value c =
    reading_is c.args.bytes.now _ (λ i. omega (arith, c.type_inv.bytes i)) (search rules)

pub returns-in_default-clause-value : goal.returns-in_default-clause-value
returns-in_default-clause-value c =
    reading_is c.args.bytes.now _ (λ i. omega (arith, c.type_inv.bytes i)) (search rules)

pub returns-in_default-bytes-clause-value : goal.returns-in_default-bytes-clause-value
returns-in_default-bytes-clause-value c =
    reading_is c.args.bytes.now _ (λ i. omega (arith, c.type_inv.bytes i)) (search rules)

pub returns-then-bytes-ne1-clause-value : goal.returns-then-bytes-ne1-clause-value
returns-then-bytes-ne1-clause-value c =
    reading_is c.args.bytes.now _ (λ i. omega (arith, c.type_inv.bytes i)) (search rules)
