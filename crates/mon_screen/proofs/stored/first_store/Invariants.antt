use Rattle.std.proofs.Common.{◌≡◌, drop}
use Rattle.std.specs.Prelude.{find}
use Rattle.mon_screen.specs.Stored.{stores_apart}
use Rattle.mon_screen.proofs.stored.first_store.Given as goal

abbrev pub invariant-loop-line : goal.invariant-loop-line
invariant-loop-line l = record {
  rest : find (stores_apart l.session.current.bus.map) l.lines ≡ find (stores_apart l.session.current.bus.map) (drop l.line-index l.lines);
}
