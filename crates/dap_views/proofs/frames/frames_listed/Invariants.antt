use Rattle.std.proofs.Common.{map, take}
use Rattle.dap_views.specs.Frames.{frame_shown}
use Rattle.dap_views.specs.Pages.{IsPage}
use Rattle.dap_views.proofs.frames.frames_listed.Given as goal

abbrev pub invariant-loop-frame : goal.invariant-loop-frame
invariant-loop-frame l = IsPage l.fn.asked (map (frame_shown l.places l.source.files.now l.source.counting) (take l.frame-index l.frames)) l.page
