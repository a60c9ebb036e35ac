use Rattle.std.proofs.Common.{◌∙◌, Bool, IfOk, map, refl, subst, sym}
use Rattle.dap_messages.specs.Messages.{said_of}
use Rattle.dap_session.specs.Passes.{SettlesAt}
use Rattle.dap_session.proofs.passing.settle.Goals as goal

pub returns-then-is_log : goal.returns-then-is_log
returns-then-is_log c =
    subst (λ (b : Bool). IfOk c.rest.result (λ ms. SettlesAt b c.args.further c.args.client.now (map said_of c.args.messages.items) c.rest.new.client
    (map said_of ms.items)))
    (sym c.if-is_log.true ∙ c.is_log.ensures) c.rest.ensures

pub returns : goal.returns
returns c =
    subst (λ (b : Bool). SettlesAt b c.args.further c.args.client.now (map said_of c.args.messages.items) c.args.client.now (map said_of c.args.messages.items))
    (sym c.if-is_log.false ∙ c.is_log.ensures) (refl, refl)
