use Rattle.std.proofs.Common.{refl, ap}
use Rattle.fault_notes.specs.Blocks.{known_in}
use Rattle.model.specs.declared.instruction.Profile.{Profile}
use Rattle.fault_notes.proofs.Marked.{blocks_as}
use Rattle.fault_notes.proofs.block.source_blocks.Goals as goal

pub returns : goal.returns
returns c = blocks_as (λ text. text.items) c.laid_blocks.result c.args.file.now _ _ _ _ c.args.faults.now refl
    (ap (λ (q : Profile). known_in q c.args.source.now) c.profile-profile.ensures) c.laid_blocks.ensures
