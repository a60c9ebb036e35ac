use Rattle.name_uses.proofs.Images.{kept_by}
use Rattle.name_uses.proofs.checked.keeps_image.Goals as goal

pub returns-in-Ok-clause-kept : goal.returns-in-Ok-clause-kept
returns-in-Ok-clause-kept c =
    kept_by c.args.map.now c.args.source.now c.args.text.now c.in-Ok.assembly.image c.image.result.now c.image.ensures c.is_source_of.result
    c.in-Ok.ensures.only c.is_source_of.ensures.right
