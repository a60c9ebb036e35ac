use Rattle.std.proofs.Common.{ap, arith}
use Rattle.console.proofs.turn.waiting_in.Goals as goal

pub returns : goal.returns
returns c =
    let taken = c.taken.ensures in
    let bus = ap (λ b. b.taken) c.bus.ensures in
    let given = c.input_len.ensures in
    let few = c.is_state.ensures.bus.taken in
    omega (arith, taken, bus, given, few, c.saturating_sub.ensures)
