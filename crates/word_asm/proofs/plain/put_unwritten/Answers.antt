use Rattle.model.proofs.Written.{front_after, front_more}
use Rattle.arguments.specs.FaultLines.{fault_line, file_line, name_part, named_line, place_part}
use Rattle.arguments.specs.declared.refusal.Refusal.TheVariants.{WriteFile}
use Rattle.word_asm.proofs.plain.put_unwritten.Goals as goal

pub returns-in-Ok : goal.returns-in-Ok
unfolding file_line place_part name_part
returns-in-Ok g c =
    front_after _ _ _ (fault_line (WriteFile c.args.fault)) (named_line c.args.file.now (WriteFile c.args.fault))
    (rw c.as_bytes.ensures.value at c.in-Ok.ensures) c.refuse_file.ensures.told

pub returns-in-Err : goal.returns-in-Err
unfolding place_part name_part
returns-in-Err g c =
    front_more _ _ (fault_line (WriteFile c.args.fault)) (named_line c.args.file.now (WriteFile c.args.fault))
    (rw c.as_bytes.ensures.value at c.in-Err.ensures)
