use Rattle.std.proofs.Common.{sym}
use Rattle.named_source.proofs.LabelledDenoted.{same_image, only_memory}
use Rattle.named_source.proofs.labelled.labelled_again.Goals as goal

pub returns-in-Ok-clause-same : goal.returns-in-Ok-clause-same
returns-in-Ok-clause-same c =
    same_image c.assemble.result c.args.image.now (c.assemble.ensures.only c.args.image.now
    (rw c.as_slice.ensures.value (c.in-Ok.ensures.denotes c.args.map.now (sym c.profile.ensures) c.requires)))

pub returns-in-Ok-clause-only : goal.returns-in-Ok-clause-only
returns-in-Ok-clause-only c =
    only_memory c.assemble.result c.args.image.now (c.assemble.ensures.only c.args.image.now
    (rw c.as_slice.ensures.value (c.in-Ok.ensures.denotes c.args.map.now (sym c.profile.ensures) c.requires)))
