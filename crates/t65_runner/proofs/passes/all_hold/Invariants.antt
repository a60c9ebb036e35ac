use Rattle.std.proofs.Common.{◌≡◌, drop, length}
use Rattle.std.specs.List.{list_all}
use Rattle.model.specs.State.{State}
use Rattle.t65_runner.specs.Passes.{item_holds}
use Rattle.t65_runner.proofs.passes.all_hold.Given as goal

abbrev pub invariant-loop-item : goal.invariant-loop-item
invariant-loop-item l = record {
  left : (state : State) → l.before.output_count ≡ length state.bus.out → l.before.cycles ≡ state.cycles
      → list_all (item_holds l.values state l.session.current) (drop l.item-index l.items) ≡ list_all (item_holds l.values state l.session.current) l.items;
}
