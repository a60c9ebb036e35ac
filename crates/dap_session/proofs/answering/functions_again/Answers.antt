use Rattle.std.proofs.Common.{refl}
use Rattle.dap_session.proofs.Done.{set_so, with_held}
use Rattle.dap_session.specs.Answered.{ListsFunctions}
use Rattle.dap_session.proofs.answering.functions_again.Goals as goal

pub returns : goal.returns
returns c =
    let set = c.set_functions.ensures in
    let kept = set.kept in
    let old = c.args.client.now in
    let new = record old { mon = c.set_functions.new.mon; listed = c.set_functions.new.listed } in
    record {
      set = rw c.in-Some.is (set_so c.let_go.result c.set_functions.result (ListsFunctions c.args.counting c.in-Some.listed old new)
          (with_held c.set_functions.result _ _ (λ v h held. (h, kept, held)) set.sets set.held) c.let_go.ensures);
      kept = (kept.0, kept.3, kept.4);
      launch = refl;
    }
