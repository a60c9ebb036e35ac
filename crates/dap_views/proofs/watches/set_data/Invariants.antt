use Rattle.std.proofs.Common.{◌≡◌, drop}
use Rattle.dap_views.specs.Watches.{KeepsBreaks, none_watched, watched_of, watches_in, with_all}
use Rattle.dap_views.proofs.watches.set_data.Given as goal

abbrev pub invariant-loop-byte : goal.invariant-loop-byte
invariant-loop-byte l = record {
  watched : with_all (watches_in l.all) (none_watched (watched_of l.fn.mon)) ≡ with_all (watches_in (drop l.byte-index l.all)) (watched_of l.mon);
  kept : KeepsBreaks l.fn.mon l.mon;
}
