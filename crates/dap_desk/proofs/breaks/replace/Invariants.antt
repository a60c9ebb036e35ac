use Rattle.std.proofs.Common.{◌≡◌, drop, length}
use Rattle.std.specs.Vec.Iter.{into_iter_items, into_iter_len}
use Rattle.dap_desk.specs.Breaks.{KeepsEvents, all_cleared, all_set, place_of}
use Rattle.dap_desk.proofs.breaks.replace.Given as goal

abbrev pub invariant-loop-placed : goal.invariant-loop-placed
invariant-loop-placed l = record {
  place : all_cleared l.old (place_of l.fn.mon)
      ≡ all_cleared (drop l.placed-index l.old) (place_of l.mon);
  kept : KeepsEvents l.fn.mon l.mon;
}

abbrev pub invariant-loop-stop : goal.invariant-loop-stop
invariant-loop-stop l = record {
  place : all_set l.fn.stops.items (all_cleared l.old (place_of l.fn.mon))
      ≡ all_set (into_iter_items l.stop-iterator) (place_of l.mon);
  len : into_iter_len l.stop-iterator ≡ length (into_iter_items l.stop-iterator);
  kept : KeepsEvents l.fn.mon l.mon;
}
