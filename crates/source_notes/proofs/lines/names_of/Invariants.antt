use Rattle.std.proofs.Common.{◌≡◌, ◌++◌, map, drop}
use Rattle.source_notes.specs.Lines.{name_view, names_from, names_of, texts_of}
use Rattle.source_notes.proofs.lines.names_of.Given as goal

abbrev pub invariant-loop-line : goal.invariant-loop-line
invariant-loop-line l = map name_view l.names.items ++ names_from l.number (texts_of (drop l.line-index l.lines)) ≡ names_of (texts_of l.lines)
