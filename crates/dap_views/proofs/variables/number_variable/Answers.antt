use Rattle.std.specs.Prelude.{decimal}
use Rattle.dap_views.proofs.variables.number_variable.Goals as goal

pub returns : goal.returns
returns c = c.plain_variable.ensures (decimal c.args.number) c.number_text.ensures
