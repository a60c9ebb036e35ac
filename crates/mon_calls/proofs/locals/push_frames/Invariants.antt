use Rattle.std.proofs.Common.{◌≡◌, ◌+◌, ◌++◌, drop}
use Rattle.mon_calls.specs.Locals.{frames_from}
use Rattle.mon_calls.proofs.locals.push_frames.Given as goal

abbrev pub invariant-loop-index : goal.invariant-loop-index
invariant-loop-index l =
    l.text.items ++ frames_from l.tables l.session.current.bus.memory l.places (l.index + 1) (drop l.index l.frames)
    ≡ l.initial.text.items ++ frames_from l.tables l.session.current.bus.memory l.places 1 l.frames
