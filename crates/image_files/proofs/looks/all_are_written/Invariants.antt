use Rattle.std.proofs.Common.{◌≡◌, drop, ◌&&◌}
use Rattle.std.specs.List.{list_all}
use Rattle.image_files.specs.Looks.{is_written}
use Rattle.image_files.proofs.looks.all_are_written.Given as goal

abbrev pub invariant-loop-byte : goal.invariant-loop-byte
invariant-loop-byte l = (l.all && list_all is_written (drop l.byte-index l.bytes)) ≡ list_all is_written l.bytes
