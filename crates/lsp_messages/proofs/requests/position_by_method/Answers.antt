use Rattle.std.proofs.Common.{◌≡◌, ◌∙◌, ap, Bool, rules}
use Rattle.serde_json.specs.View.{view}
use Rattle.lsp_messages.specs.Requests.{asked_at, position_by_method, references_of}
use Rattle.lsp_messages.specs.Views.{request_view}
use Rattle.lsp_messages.specs.declared.asked.At.TheVariants.{References}
use Rattle.lsp_messages.proofs.requests.position_by_method.Goals as goal

pub returns-in-text-3 : goal.returns-in-text-3
unfolding position_by_method
returns-in-text-3 c =
    let asked : request_view c.asked_at-in-text-3.result ≡ references_of (view c.args.message.now)
    = c.asked_at-in-text-3.ensures ∙ ap (λ (declares : Bool). asked_at (References declares) (view c.args.message.now)) c.flag_or-declares.ensures in
    asked ∙ search rules
