use Rattle.std.proofs.Common.{◌≡◌, ◌∙◌, IfOk, subst, sym}
use Rattle.serde_json.specs.View.{view}
use Rattle.dap_messages.specs.Requests.{request_by}
use Rattle.dap_messages.specs.Seen.{request_view}
use Rattle.dap_messages.specs.declared.names.RequestName.{RequestName}
use Rattle.dap_messages.proofs.reading.request_of.Goals as goal

pub returns-in-Launch : goal.returns-in-Launch
returns-in-Launch c =
    let message = view c.args.message.now in
    subst (λ (name : RequestName). IfOk c.launch_asked.result (λ r. request_view r ≡ request_by message name))
    (sym c.in-Launch.is ∙ c.name_of.ensures) c.launch_asked.ensures
