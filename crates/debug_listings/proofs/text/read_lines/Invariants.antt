use Rattle.std.proofs.Common.{◌≡◌, ◌+◌, ◌≤◌, length}
use Rattle.model.specs.TextLines.{lines_of}
use Rattle.debug_listings.specs.Reading.{nothing_read, reading_view}
use Rattle.debug_listings.specs.Texts.{lines_read}
use Rattle.debug_listings.proofs.text.read_lines.Given as goal

abbrev pub invariant-loop-rest : goal.invariant-loop-rest
invariant-loop-rest l = record {
  room : l.number + length l.rest ≤ 1 + length l.fn.text;
  read : lines_read 1 (lines_of l.fn.text) (nothing_read l.fn.form) ≡ lines_read l.number (lines_of l.rest) (reading_view l.reading);
}

abbrev pub decreases-loop-rest : goal.decreases-loop-rest
decreases-loop-rest l = length l.rest
