-- `Umid::material_number`: the material number: bytes 17 to 32.
use Rattle.std.proofs.Common.{◌∙◌, ap, drop, arith}
use Rattle.std.proofs.lemmas.List.{take_all}
use Rattle.umid.specs.BasicUmid.{UmidParts}
use Rattle.umid.proofs.Umid.material_number.Goals as goal

-- no more than 16 bytes are behind the first 16
pub returns : goal.returns
returns c =
    c.copy_from_slice.ensures.after
    ∙ take_all 16 (drop 16 c.self.inside.bytes) (omega (arith, c.self.invariant.material_number))
    ∙ ap (λ (parts : UmidParts). parts.material_number) c.self.view_is
