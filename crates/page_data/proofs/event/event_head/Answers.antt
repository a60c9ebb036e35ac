use Rattle.std.proofs.Common.{◌%◌, ◌-◌, ℕ, arith, ap}
use Rattle.std.specs.Prelude.{bit_xor, slice_index}
use Rattle.std.proofs.lemmas.List.{length-map}
use Rattle.page_data.specs.Events.{change_told}
use Rattle.page_data.proofs.event.event_head.Goals as goal

pub returns : goal.returns
unfolding change_told
returns c = λ event.
    let memory = c.args.session.now.current.bus.memory in
    let cells = c.args.before.now.cells.items in
    let changed : ℕ × ℕ → ℕ × ℕ = λ x. (x.0, bit_xor x.1 (slice_index memory x.0)) in
    omega (arith, length-map cells changed, ap (λ n. (n - c.args.before.now.cycles) % 16) c.cycles.ensures)
