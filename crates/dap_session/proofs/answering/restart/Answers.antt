use Rattle.std.proofs.Common.{List, subst, sym}
use Rattle.std.proofs.lemmas.Result.{IfErr-weaker, IfOk-weaker}
use Rattle.dap_messages.specs.Seen.{launch_view}
use Rattle.dap_session.proofs.Done.{kept}
use Rattle.dap_session.specs.Answered.{SetsAllAgain}
use Rattle.dap_session.specs.Begun.{IsLaunched}
use Rattle.dap_session.specs.declared.client.Client.{Client}
use Rattle.dap_views.specs.declared.source.FilePath.{FilePath}
use Rattle.dap_session.proofs.answering.restart.Goals as goal

pub returns-in-Ok-clause-done : goal.returns-in-Ok-clause-done
returns-in-Ok-clause-done g c =
    let again = c.set_all_again-set.new.client in
    let launched = subst (IsLaunched (launch_view c.args.client.now.launch)) (sym c.swap.ensures.x_after) c.in_ok-old.ensures in
    let files = subst (λ (fs : List FilePath). SetsAllAgain c.swap.new.y.listed fs c.args.counting c.swap.new.x again)
    c.as_slice.ensures.value c.in-Ok.ensures.set in
    let set = subst (λ (s : Client). SetsAllAgain s.listed s.files.items c.args.counting c.swap.new.x again) c.swap.ensures.y_after files in
    IfOk-weaker c.or_memory.result _ _
    (λ ms begins. (again, (c.swap.new.x, launched, set, c.in-Ok.ensures.kept, c.set_all_again-set.ensures.launch), begins))
    (kept c.configured.result c.or_memory.result _ c.or_memory.ensures.made c.configured.ensures)

pub returns-in-Ok-clause-refused : goal.returns-in-Ok-clause-refused
returns-in-Ok-clause-refused g c = IfErr-weaker c.or_memory.result _ _ (λ f memory. rw memory tt) c.or_memory.ensures.memory
