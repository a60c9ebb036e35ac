use Rattle.std.proofs.Common.{◌∙◌, ap}
use Rattle.serde_json.specs.View.{view}
use Rattle.dap_messages.specs.Members.{first_wrong}
use Rattle.dap_messages.proofs.members.wrong_member.Goals as goal

pub returns : goal.returns
returns c = c.first_wrong.ensures ∙ ap (first_wrong (view c.args.message.now)) c.members.ensures
