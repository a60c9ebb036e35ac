use Rattle.std.proofs.Common.{◌≡◌, map, take}
use Rattle.t65_suites.specs.Suites.{reading_view, suite_view, suites_of}
use Rattle.t65_suites.proofs.suites.suites_of.Given as goal

abbrev pub invariant-loop-rows : goal.invariant-loop-rows
invariant-loop-rows l = map suite_view l.suites.items ≡ suites_of (reading_view l.reading) (map (λ s. s.now) l.sources)
    (map (λ f. f.now) (take l.rows-index l.files))
