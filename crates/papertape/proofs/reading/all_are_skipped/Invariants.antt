use Rattle.std.proofs.Common.{◌≡◌, drop, ◌&&◌}
use Rattle.std.specs.List.{list_all}
use Rattle.model.specs.Tape.{is_skipped}
use Rattle.papertape.proofs.reading.all_are_skipped.Given as goal

abbrev pub invariant-loop-byte : goal.invariant-loop-byte
invariant-loop-byte l = (l.all && list_all is_skipped (drop l.byte-index l.bytes)) ≡ list_all is_skipped l.bytes
