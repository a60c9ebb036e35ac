use Rattle.std.proofs.Common.{◌≡◌, false, take}
use Rattle.std.specs.List.{list_any}
use Rattle.warnings.specs.Reaches.{covers}
use Rattle.warnings.proofs.zero_page_writes.is_written.Given as goal

abbrev pub invariant-loop-reach : goal.invariant-loop-reach
invariant-loop-reach l = list_any (covers l.number) (take l.reach-index l.reaches) ≡ false
