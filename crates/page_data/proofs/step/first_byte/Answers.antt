use Rattle.std.proofs.Common.{◌%◌, ◌-◌, ℕ, arith, ap, length}
use Rattle.std.specs.Prelude.{bit_xor, slice_index}
use Rattle.std.proofs.lemmas.List.{length-map}
use Rattle.page_data.specs.Steps.{change_by, stored_cells}
use Rattle.page_data.proofs.step.first_byte.Goals as goal

pub returns : goal.returns
unfolding change_by
returns c = λ given.
    let memory = c.args.session.now.current.bus.memory in
    let cells = stored_cells c.args.is_entry c.args.ahead.now.pushes.items c.args.ahead.now.stores.items in
    let changed : ℕ × ℕ → ℕ × ℕ = λ x. (x.0, bit_xor x.1 (slice_index memory x.0)) in
    omega (
      arith,
      c.read_count.ensures.value,
      ap length c.stored.ensures.value,
      length-map cells changed,
      ap
          (λ n. (n - c.args.ahead.now.moment.cycles) % 16) c.cycles.ensures,
    )
