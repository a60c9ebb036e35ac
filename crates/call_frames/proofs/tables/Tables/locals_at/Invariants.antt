use Rattle.std.proofs.Common.{◌≡◌, ◌++◌, drop, map}
use Rattle.call_frames.specs.Tables.{local_in}
use Rattle.call_frames.proofs.tables.Tables.locals_at.Given as goal

abbrev pub invariant-loop-auto : goal.invariant-loop-auto
invariant-loop-auto l = l.locals.items ++ map (local_in l.self l.frame l.autos) (drop l.auto-index l.autos)
    ≡ map (local_in l.self l.frame l.autos) l.autos
