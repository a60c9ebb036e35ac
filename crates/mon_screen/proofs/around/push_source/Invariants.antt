use Rattle.std.proofs.Common.{◌≡◌, ◌++◌, ◌-◌}
use Rattle.mon_screen.specs.Around.{next_number, several, source_line}
use Rattle.source_map.specs.Lines.{texts_at}
use Rattle.mon_screen.proofs.around.push_source.Given as goal

abbrev pub invariant-loop : goal.invariant-loop
invariant-loop l = l.text.items ++ several (l.count - l.counter) (source_line (texts_at l.places.sources l.file) l.here) next_number l.number
    ≡ l.initial.text.items ++ several l.count (source_line (texts_at l.places.sources l.file) l.here) next_number l.first
