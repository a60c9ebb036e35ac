use Rattle.std.proofs.Common.{◌≡◌, ◌∙◌, ◌+◌, ap, arith, sym}
use Rattle.dap_session.proofs.Writable.{at_port, not_here, nowhere, too_many}
use Rattle.model.specs.Event.{meets_port}
use Rattle.dap_session.proofs.changing.can_write.Goals as goal

pub loop-index-init : goal.loop-index-init
loop-index-init c =
    let same : c.args.address ≡ c.args.address + 0 = omega arith in
    ap (λ a. meets_port c.args.session.now.current.bus.map a c.args.bytes.now) same
