use Rattle.dap_views.specs.Found.{found_line}
use Rattle.dap_views.proofs.Finding.{AreFound}
use Rattle.dap_views.proofs.listed.lines_wanted.Given as goal

abbrev pub invariant-loop-wanted : goal.invariant-loop-wanted
invariant-loop-wanted l = AreFound (found_line l.mon.places l.mon.session.current.regs.pc l.counting l.file) l.all l.wanted-index l.list
