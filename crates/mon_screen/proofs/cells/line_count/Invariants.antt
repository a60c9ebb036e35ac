use Rattle.std.proofs.Common.{◌≡◌, ◌≤◌, ◌+◌, drop}
use Rattle.mon_screen.specs.Cells.{line_count}
use Rattle.mon_screen.proofs.cells.line_count.Given as goal

abbrev pub invariant-loop-byte : goal.invariant-loop-byte
invariant-loop-byte l = record {
  few : l.count ≤ l.byte-index;
  counted : l.count + line_count (drop l.byte-index l.text) ≡ line_count l.text;
}
