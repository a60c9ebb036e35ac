use Rattle.std.proofs.Common.{◌≡◌, drop}
use Rattle.c_frames.specs.Locals.{nearest}
use Rattle.c_frames.proofs.locals.nearest.Given as goal

abbrev pub invariant-loop-auto : goal.invariant-loop-auto
invariant-loop-auto l = nearest l.local l.base l.best (drop l.auto-index l.autos) ≡ nearest l.local l.base l.fn.found l.autos
