use Rattle.std.proofs.Common.{arith, refl}
use Rattle.lsp_hints.proofs.Within.{run_within}
use Rattle.model.specs.Token.{is_blank}
use Rattle.lsp_hints.proofs.operation.blanks_after.Goals as goal

pub overflow_add-result : goal.overflow_add-result
overflow_add-result c = rw (c.blank_run.ensures, c.after.ensures) (omega (arith, run_within is_blank c.args.line.now c.args.place c.requires))

pub returns-clause-end : goal.returns-clause-end
returns-clause-end c = rw (c.blank_run.ensures, c.after.ensures) refl

pub returns-clause-within : goal.returns-clause-within
returns-clause-within c = rw (c.blank_run.ensures, c.after.ensures) (run_within is_blank c.args.line.now c.args.place c.requires)
