use Rattle.std.proofs.Common.{◌∙◌, Option, ap, sym}
use Rattle.dap_views.specs.Looks.{named_otherwise}
use Rattle.dap_views.specs.declared.named.Variable.{Variable}
use Rattle.dap_views.proofs.looks.named_otherwise.Goals as goal

pub returns-in-Some : goal.returns-in-Some
returns-in-Some c = ap (λ (v : Option Variable). named_otherwise v c.args.text.now) (sym c.in-Some.is ∙ c.own_variable.ensures)
