use Rattle.std.proofs.Common.{◌≡◌, ◌∙◌, ℕ, IfOk, Option, subst, sym}
use Rattle.std.specs.Prelude.{string_bytes}
use Rattle.dap_views.specs.Looks.{byte_or_shown}
use Rattle.dap_views.specs.Named.{value_shown}
use Rattle.dap_views.proofs.looks.variable_text.Goals as goal

pub returns-in-Some : goal.returns-in-Some
returns-in-Some c =
    let shown = value_shown c.args.mon.now.session.current c.args.variable in
    subst (λ (byte : Option ℕ). IfOk c.byte_text.result (λ text. string_bytes text ≡ byte_or_shown byte shown))
    (sym c.in-Some.is ∙ c.value_byte.ensures) c.byte_text.ensures

pub returns-in-None : goal.returns-in-None
returns-in-None c =
    let shown = value_shown c.args.mon.now.session.current c.args.variable in
    subst (λ (byte : Option ℕ). IfOk c.value_shown.result (λ text. string_bytes text ≡ byte_or_shown byte shown))
    (sym c.in-None.is ∙ c.value_byte.ensures) c.value_shown.ensures
