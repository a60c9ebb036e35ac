use Rattle.std.proofs.Common.{List, None, refl, subst}
use Rattle.std.proofs.lemmas.Result.{IfOk-weaker}
use Rattle.dap_messages.specs.declared.request.InstructionBreakpoint.{InstructionBreakpoint}
use Rattle.dap_views.proofs.Listing.{sets_list}
use Rattle.dap_views.specs.Breaks.{Finds}
use Rattle.dap_views.specs.Found.{found_address}
use Rattle.dap_views.proofs.listed.set_addresses.Goals as goal

pub returns-clause-sets : goal.returns-clause-sets
returns-clause-sets c =
    let find = found_address c.args.mon.now.places c.args.mon.now.session.current.regs.pc in
    let found = subst (λ (all : List InstructionBreakpoint). Finds find all c.in_ok-list.list) c.as_slice.ensures.value c.in_ok-list.ensures in
    sets_list find c.args.counting None c.args.wanted.first c.args.wanted.list.items c.args.listed.now.addresses.items c.set_list.new.held.items
    c.args.mon.now c.set_list.new.mon c.in_ok-list.list c.set_list.result found c.set_list.ensures.held c.set_list.ensures.place c.set_list.ensures.answer

pub returns-clause-held : goal.returns-clause-held
returns-clause-held c = IfOk-weaker c.set_list.result _ _ (λ v h. (refl, refl, refl, refl, refl)) c.set_list.ensures.answer
