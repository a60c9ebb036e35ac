use Rattle.std.proofs.Common.{◌∙◌, ◌++◌, List, Some, ap, refl, subst, true, false}
use Rattle.dap_desk.specs.Breaks.{all_cleared, all_set, place_of}
use Rattle.dap_messages.specs.declared.listed.Placed.{Placed}
use Rattle.dap_messages.specs.declared.request.SourceBreakpoint.{SourceBreakpoint}
use Rattle.dap_views.specs.Answered.{placed_in}
use Rattle.dap_views.specs.Breaks.{Finds}
use Rattle.dap_views.specs.Found.{found_line}
use Rattle.dap_views.proofs.listed.set_lines.Goals as goal

pub returns-clause-sets : goal.returns-clause-sets
returns-clause-sets c =
    let mon = c.args.mon.now in
    let file = c.args.wanted.file in
    let lines = c.args.listed.now.lines.items in
    let find = found_line mon.places mon.session.current.regs.pc c.args.counting file in
    let found = subst (λ (all : List SourceBreakpoint). Finds find all c.in_ok-list.list) c.as_slice.ensures.value c.in_ok-list.ensures in
    let set = c.in_ok-answer.ensures in
    let held = c.in_ok-held.ensures ∙ ap (placed_in true file) c.as_slice-2.ensures.value in
    let others = c.in_ok-lines.ensures ∙ ap (placed_in false file) c.as_slice-3.ensures.value in (
      c.set_list.new.held.items,
      (
        c.in_ok-list.list.told.items,
        c.in_ok-list.list.stops.items,
        found.0,
        found.1,
        set.place ∙ ap (λ (old : List Placed). all_set c.in_ok-list.list.stops.items (all_cleared old (place_of mon))) held,
        set.held,
        set.answer,
      ),
      c.in_ok-extend_from_slice.ensures.items ∙ (λ i. others i ++ c.as_slice-4.ensures.value i),
    )
