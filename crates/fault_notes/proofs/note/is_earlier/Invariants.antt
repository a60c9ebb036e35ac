use Rattle.std.proofs.Common.{◌≡◌, drop, map}
use Rattle.std.specs.List.{list_any}
use Rattle.fault_notes.specs.Marks.{is_earlier}
use Rattle.source_notes.specs.Lines.{name_view}
use Rattle.fault_notes.proofs.note.is_earlier.Given as goal

abbrev pub invariant-loop-known : goal.invariant-loop-known
invariant-loop-known l = list_any (is_earlier l.number l.name) (map name_view l.names)
    ≡ list_any (is_earlier l.number l.name) (map name_view (drop l.known-index l.names))
