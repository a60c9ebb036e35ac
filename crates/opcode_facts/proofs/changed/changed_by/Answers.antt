use Rattle.std.proofs.Common.{subst, sym}
use Rattle.opcode_facts.proofs.Others.{keeps_others}
use Rattle.opcode_facts.specs.Changed.{KeepsOthers}
use Rattle.opcode_facts.proofs.changed.changed_by.Goals as goal

pub returns-clause-kept : goal.returns-clause-kept
returns-clause-kept c = λ mode place state is.
    subst (λ flags. KeepsOthers flags c.args.operation mode place state) (sym c.flags_of.ensures)
    (keeps_others c.args.profile c.args.operation mode place state is)
