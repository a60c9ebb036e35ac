use Rattle.std.proofs.Common.{refl}
use Rattle.dap_session.proofs.Done.{set_so, with_both}
use Rattle.dap_session.specs.Answered.{ListsBytes}
use Rattle.dap_session.proofs.answering.bytes_again.Goals as goal

pub returns : goal.returns
returns c =
    let set = c.set_data.ensures in
    let kept = set.kept in
    let old = c.args.client.now in
    let new = record old { mon = c.set_data.new.mon; listed = c.set_data.new.listed } in
    record {
      set = rw c.in-Some.is (set_so c.let_go.result c.set_data.result (ListsBytes c.in-Some.listed old new)
          (with_both c.set_data.result _ _ (λ v told sets held. (sets, kept, told, (held, set.others.0, set.others.1, set.others.2, set.others.3)))
          set.answer set.sets set.held) c.let_go.ensures);
      kept = (kept.0, kept.2, kept.3);
      launch = refl;
    }
