use Rattle.std.proofs.Common.{◌∙◌, ◌++◌, List, ℕ, arith, ap, sym}
use Rattle.page_data.specs.Start.{page}
use Rattle.page_data.proofs.Pages.{page_on, pages_done}
use Rattle.page_data.proofs.start.push_pages.Goals as goal

pub loop-number-preserved : goal.loop-number-preserved
loop-number-preserved c =
    let memory = c.args.session.now.current.bus.memory in
    page_on c.loop-number.written.items c.push_page.new.written.items c.loop-number.number memory (omega arith)
    (c.in_ok-push_page.ensures ∙ ap (λ (l : List ℕ). c.loop-number.written.items ++ page l) c.page_of.ensures) ∙ c.loop-number.invariant

pub returns : goal.returns
returns c =
    let memory = c.args.session.now.current.bus.memory in
    sym (pages_done c.loop-number.written.items c.loop-number.number memory (omega arith)) ∙ c.loop-number.invariant
