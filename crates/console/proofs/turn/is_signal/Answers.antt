use Rattle.std.proofs.Common.{ap, ◌∙◌, arith}
use Rattle.std.specs.Prelude.{◌&&◌, ◌==◌}
use Rattle.std.proofs.Common.{◌%◌}
use Rattle.console.proofs.Port.{at_offset}
use Rattle.console.proofs.turn.is_signal.Goals as goal

pub returns : goal.returns
returns c =
    ap (λ b. b && (c.args.address % 4 == 2)) c.is_port.ensures
    ∙ at_offset c.args.session.now.current.bus.map c.args.address 2 c.is_state.ensures.bus.map (omega arith)
