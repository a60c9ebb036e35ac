use Rattle.std.proofs.Common.{◌≡◌, length}
use Rattle.std.specs.Vec.Iter.{into_iter_items, into_iter_len}
use Rattle.mon_settings.specs.StopLines.{KeepsWatches, all_set, place_of}
use Rattle.mon_settings.proofs.breaks.set_each.Given as goal

abbrev pub invariant-loop-stop : goal.invariant-loop-stop
invariant-loop-stop l = record {
  place : all_set l.fn.stops.items (place_of l.fn.mon)
      ≡ all_set (into_iter_items l.stop-iterator) (place_of l.mon);
  len : into_iter_len l.stop-iterator ≡ length (into_iter_items l.stop-iterator);
  kept : KeepsWatches l.fn.mon l.mon;
  text : l.mon.text ≡ l.fn.mon.text;
}
