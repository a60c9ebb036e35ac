use Rattle.std.proofs.Common.{◌≡◌, ◌++◌, drop, length}
use Rattle.std.specs.Prelude.{string_bytes}
use Rattle.std.specs.List.{flat_map}
use Rattle.model.specs.State.{State}
use Rattle.t65_failures.specs.Failures.{miss_text}
use Rattle.t65_failures.proofs.detail.push_misses.Given as goal

abbrev pub invariant-loop-item : goal.invariant-loop-item
invariant-loop-item l = (state : State) → l.before.output_count ≡ length state.bus.out → l.before.cycles ≡ state.cycles
    → string_bytes l.text ++ flat_map (miss_text l.values state l.session.current) (drop l.item-index l.items)
    ≡ string_bytes l.initial.text ++ flat_map (miss_text l.values state l.session.current) l.items
