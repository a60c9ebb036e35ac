use Rattle.model.specs.declared.instruction.Profile.TheVariants.{N}
use Rattle.optable.proofs.Table.{cycles_at, kept_at}
use Rattle.optable.proofs.rows.OpTable.documented.Goals as goal

pub returns-clause-row : goal.returns-clause-row
returns-clause-row c = kept_at c.args.self.profile c.args.opcode _ c.documented_row.ensures

pub returns-clause-small : goal.returns-clause-small
returns-clause-small c = cycles_at N c.args.opcode c.ranges.opcode.fits _ c.documented_row.ensures
