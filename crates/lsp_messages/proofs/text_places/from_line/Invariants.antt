use Rattle.std.proofs.Common.{◌≡◌, ◌≤◌, length}
use Rattle.lsp_messages.specs.TextPlaces.{from_line}
use Rattle.lsp_messages.proofs.text_places.from_line.Given as goal

abbrev pub decreases-loop-left : goal.decreases-loop-left
decreases-loop-left l = l.left

abbrev pub invariant-loop-left : goal.invariant-loop-left
invariant-loop-left l = record {
  from : from_line l.left l.rest ≡ from_line l.line l.text;
  within : length l.rest ≤ length l.text;
}
