use Rattle.std.proofs.Common.{◌≡◌, ◌+◌, ◌==◌, drop}
use Rattle.std.specs.Prelude.{find}
use Rattle.c_frames.specs.declared.walk.Frame.{Frame}
use Rattle.dap_views.proofs.locals.called_frame.Given as goal

abbrev pub invariant-loop-frame : goal.invariant-loop-frame
invariant-loop-frame l = find (λ (frame : Frame). 255 + frame.s == l.id) l.frames
    ≡ find (λ (frame : Frame). 255 + frame.s == l.id) (drop l.frame-index l.frames)
