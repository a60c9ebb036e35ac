use Rattle.std.proofs.Common.{◌≡◌, ◌++◌, map, take}
use Rattle.t65_suites.specs.Suites.{on_source, reading_view, suite_view}
use Rattle.t65_suites.proofs.suites.push_each.Given as goal

abbrev pub invariant-loop-source : goal.invariant-loop-source
invariant-loop-source l = map suite_view l.suites.items ≡ map suite_view l.initial.suites.items
    ++ map (on_source (reading_view l.reading) l.rows) (map (λ s. s.now) (take l.source-index l.sources))
