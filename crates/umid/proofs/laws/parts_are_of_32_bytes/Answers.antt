-- `parts_are_of_32_bytes`: the parts of a UMID are those of some 32 bytes.
use Rattle.std.proofs.Common.{◌≡◌, true, subst}
use Rattle.umid.specs.BasicUmid.{is_umid}
use Rattle.umid.proofs.UmidLemmas.{is_umid-parts_in}
use Rattle.umid.proofs.laws.parts_are_of_32_bytes.Goals as goal

pub returns : goal.returns
returns c =
    subst (λ parts. is_umid parts ≡ true) c.umid.view_is
    (is_umid-parts_in c.umid.inside.bytes c.umid.invariant c.bytes_are_small.ensures)
