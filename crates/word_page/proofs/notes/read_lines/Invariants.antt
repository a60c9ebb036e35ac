use Rattle.std.proofs.Common.{◌≡◌, ◌+◌, ◌≤◌, [], length, map}
use Rattle.model.specs.TextLines.{lines_of}
use Rattle.word_page.specs.Notes.{note_view, notes_from}
use Rattle.word_page.proofs.notes.read_lines.Given as goal

abbrev pub invariant-loop-rest : goal.invariant-loop-rest
invariant-loop-rest l = record {
  room : l.number + length l.rest ≤ 1 + length l.text;
  left : notes_from l.number (map note_view l.notes.items) (lines_of l.rest) ≡ notes_from 1 [] (lines_of l.text);
}

abbrev pub decreases-loop-rest : goal.decreases-loop-rest
decreases-loop-rest l = length l.rest
