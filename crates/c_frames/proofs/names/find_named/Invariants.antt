use Rattle.std.proofs.Common.{◌≡◌, drop, map}
use Rattle.c_frames.specs.Names.{find_named, row_view}
use Rattle.c_frames.proofs.names.find_named.Given as goal

abbrev pub invariant-loop-known : goal.invariant-loop-known
invariant-loop-known l = find_named l.name (map row_view l.rows) ≡ find_named l.name (map row_view (drop l.known-index l.rows))
