use Rattle.std.proofs.Common.{refl}
use Rattle.dap_session.proofs.Done.{set_so, with_held}
use Rattle.dap_session.specs.Answered.{ListsAddresses}
use Rattle.dap_session.proofs.answering.addresses_again.Goals as goal

pub returns : goal.returns
returns c =
    let set = c.set_addresses.ensures in
    let kept = set.kept in
    let old = c.args.client.now in
    let new = record old { mon = c.set_addresses.new.mon; listed = c.set_addresses.new.listed } in
    record {
      set = rw c.in-Some.is (set_so c.let_go.result c.set_addresses.result (ListsAddresses c.args.counting c.in-Some.listed old new)
          (with_held c.set_addresses.result _ _ (λ v h held. (h, kept, held)) set.sets set.held) c.let_go.ensures);
      kept = (kept.0, kept.3, kept.4);
      launch = refl;
    }
