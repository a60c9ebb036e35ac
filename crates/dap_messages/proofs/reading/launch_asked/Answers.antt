use Rattle.std.proofs.Common.{◌∙◌, Option, ap, sym}
use Rattle.serde_json.specs.View.{view}
use Rattle.dap_messages.specs.Requests.{launch_by}
use Rattle.dap_messages.specs.Seen.{SeenLaunch, launch}
use Rattle.dap_messages.specs.declared.members.Member.{Member}
use Rattle.dap_messages.proofs.reading.launch_asked.Goals as goal

pub returns-in-Some : goal.returns-in-Some
returns-in-Some c = ap (λ (m : Option Member). launch_by (view c.args.message.now) m) (sym c.in-Some.is ∙ c.wrong_member.ensures)

pub returns-in_ok-launch-in-None : goal.returns-in_ok-launch-in-None
returns-in_ok-launch-in-None c = ap (λ (l : SeenLaunch). launch l) c.in_ok-launch-in-None.ensures
    ∙ ap (λ (m : Option Member). launch_by (view c.args.message.now) m) (sym c.in-None.is ∙ c.wrong_member.ensures)
