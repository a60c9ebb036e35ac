use Rattle.dap_views.specs.Found.{found_name}
use Rattle.dap_views.proofs.Finding.{AreFound}
use Rattle.dap_views.proofs.listed.names_wanted.Given as goal

abbrev pub invariant-loop-wanted : goal.invariant-loop-wanted
invariant-loop-wanted l = AreFound (found_name l.mon.places l.mon.session.current.regs.pc) l.all l.wanted-index l.list
