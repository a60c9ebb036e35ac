use Rattle.std.proofs.Common.{arith, subst}
use Rattle.dap_views.specs.Found.{HasFound, found_line}
use Rattle.dap_views.proofs.Finding.{all_found, none_found, one_found}
use Rattle.dap_messages.specs.declared.request.SourceBreakpoint.{SourceBreakpoint}
use Rattle.dap_views.proofs.listed.lines_wanted.Goals as goal

pub loop-wanted-init : goal.loop-wanted-init
loop-wanted-init c = none_found (found_line c.args.mon.now.places c.args.mon.now.session.current.regs.pc c.args.counting c.args.file)
    c.args.all.now _ c.new_list-list.ensures.told c.new_list-list.ensures.stops

pub loop-wanted-preserved : goal.loop-wanted-preserved
loop-wanted-preserved c =
    let find = found_line c.args.mon.now.places c.args.mon.now.session.current.regs.pc c.args.counting c.args.file in
    one_found find c.args.all.now c.loop-wanted.wanted-index c.wanted-item.result c.loop-wanted.list c.push_line.new.list
    (omega (arith, c.loop-wanted-test.true))
    (subst (λ (w : SourceBreakpoint). HasFound (find w) c.loop-wanted.list c.push_line.new.list) c.wanted-item.is c.in_ok-push_line.ensures)
    c.loop-wanted.invariant

pub returns : goal.returns
returns c = all_found (found_line c.args.mon.now.places c.args.mon.now.session.current.regs.pc c.args.counting c.args.file)
    c.args.all.now c.loop-wanted.wanted-index c.loop-wanted.list
    (omega (arith, c.loop-wanted-test.false)) c.loop-wanted.invariant
