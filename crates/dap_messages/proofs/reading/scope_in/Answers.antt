use Rattle.std.proofs.Common.{◌∙◌, ℕ, Option, ap, option_and_then, sym}
use Rattle.dap_messages.specs.Requests.{scope_of}
use Rattle.dap_messages.proofs.reading.scope_in.Goals as goal

pub returns-in-Some : goal.returns-in-Some
returns-in-Some c = c.scope_of.ensures ∙ ap (λ (n : Option ℕ). option_and_then scope_of n) (sym c.in-Some.is ∙ c.number_at.ensures)

pub returns-in-None : goal.returns-in-None
returns-in-None c = ap (λ (n : Option ℕ). option_and_then scope_of n) (sym c.in-None.is ∙ c.number_at.ensures)
