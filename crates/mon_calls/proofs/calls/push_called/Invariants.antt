use Rattle.std.proofs.Common.{◌≡◌, ◌++◌, drop}
use Rattle.std.specs.List.{flat_map}
use Rattle.mon_calls.specs.Calls.{called_line}
use Rattle.mon_calls.proofs.calls.push_called.Given as goal

abbrev pub invariant-loop-frame : goal.invariant-loop-frame
invariant-loop-frame l = l.text.items ++ flat_map (called_line l.session.current l.places) (drop l.frame-index l.frames)
    ≡ l.initial.text.items ++ flat_map (called_line l.session.current l.places) l.frames
