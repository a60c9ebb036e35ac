use Rattle.std.proofs.Common.{◌≡◌, ◌∙◌, ℕ, IfOk, Option, ap, subst, sym}
use Rattle.dap_views.specs.Named.{meant_by}
use Rattle.dap_views.proofs.named.meant.Goals as goal

pub returns-in-Some : goal.returns-in-Some
returns-in-Some c =
    subst (λ (byte : Option ℕ). IfOk c.meant_at.result (λ t. t.now ≡ meant_by byte c.args.text.now)) (sym c.in-Some.is ∙ c.value_byte.ensures)
    c.meant_at.ensures

pub returns-in-None : goal.returns-in-None
returns-in-None c = ap (λ (byte : Option ℕ). meant_by byte c.args.text.now) (sym c.in-None.is ∙ c.value_byte.ensures)
