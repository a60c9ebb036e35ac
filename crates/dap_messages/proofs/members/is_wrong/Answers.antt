use Rattle.std.proofs.Common.{◌∙◌}
use Rattle.serde_json.specs.View.{view}
use Rattle.dap_messages.specs.Members.{is_wrong_at}
use Rattle.dap_messages.proofs.members.is_wrong.Goals as goal

pub returns : goal.returns
returns c = c.is_wrong_at.ensures ∙ (λ i. is_wrong_at (c.form_of.ensures i) (c.path_of.ensures i) (view c.args.message.now))
