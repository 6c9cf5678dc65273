-- `Umid::with_instance`: the same UMID with another instance number, which is below 2^24: bytes 14 to 16 alone differ.
use Rattle.std.proofs.Common.{◌≡◌, ◌/◌, arith, slice_index}
use Rattle.umid.proofs.UmidLemmas.{IsBasicUmid-with_instance, parts_in-IsBasicUmid}
use Rattle.umid.proofs.Umid.with_instance.Goals as goal

pub invariant_of-result : goal.invariant_of-result
invariant_of-result c =
    let e = c.to_be_bytes.ensures in
    let high : slice_index c.to_be_bytes.result 1 ≡ c.args.number / 65536 = rw e (omega arith) in
    let h =
    IsBasicUmid-with_instance c.self.inside.bytes _ c.args.number (slice_index c.to_be_bytes.result 1)
    (slice_index c.to_be_bytes.result 2) (slice_index c.to_be_bytes.result 3) c.self.invariant c.requires high
    (rw e) (rw e) in
    rw (parts_in-IsBasicUmid _ _ h) h
