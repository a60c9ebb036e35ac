use Rattle.std.proofs.Common.{◌≡◌, ◌-◌, ◌*◌, ◌++◌, drop}
use Rattle.page_data.specs.Start.{pages}
use Rattle.page_data.proofs.start.push_pages.Given as goal

abbrev pub invariant-loop-number : goal.invariant-loop-number
invariant-loop-number l = l.written.items ++ pages (256 - l.number) (drop (256 * l.number) l.session.current.bus.memory) ≡ l.initial.written.items
    ++ pages 256 l.session.current.bus.memory
