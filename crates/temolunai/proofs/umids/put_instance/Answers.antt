-- `put_instance`: writes a UMID with another instance number.
use Rattle.std.proofs.Common.{◌∙◌, ap}
use Rattle.temolunai.specs.Rooms.{put}
use Rattle.umid.specs.BasicUmid.{basic_umid}
use Rattle.temolunai.proofs.umids.put_instance.Goals as goal

pub returns-clause-written : goal.returns-clause-written
returns-clause-written c =
    c.put.ensures.written
    ∙ ap (λ bytes. put bytes c.args.out.now) (c.to_bytes.ensures ∙ ap basic_umid c.with_instance.ensures)
