use Rattle.std.proofs.Common.{◌≡◌, drop, map}
use Rattle.std.specs.List.{find}
use Rattle.source_notes.specs.Lines.{name_view}
use Rattle.warning_notes.specs.Notes.{is_like}
use Rattle.warning_notes.proofs.note.like_name.Given as goal

abbrev pub invariant-loop-name : goal.invariant-loop-name
invariant-loop-name l = find (is_like l.number l.word) (map name_view l.names) ≡ find (is_like l.number l.word) (map name_view (drop l.name-index l.names))
