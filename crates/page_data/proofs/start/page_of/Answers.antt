use Rattle.std.proofs.Common.{◌≢◌, ◌∙◌, ◌<◌, arith, length, below_more, get_or-set_other, get_or-set_same}
use Rattle.std.proofs.lemmas.List.{length-set}
use Rattle.page_data.proofs.Pages.{page_all}
use Rattle.page_data.proofs.start.page_of.Goals as goal

pub loop-index-preserved : goal.loop-index-preserved
loop-index-preserved c =
    let size = c.loop-index.invariant.size in
    record {
      size = omega (arith, length-set c.loop-index.cells c.loop-index.index c.peek.result, size);
      same = below_more _ _
          (λ k h. let ne : k ≢ c.loop-index.index = omega arith in
          get_or-set_other c.loop-index.cells c.loop-index.index k c.peek.result 0 ne ∙ c.loop-index.invariant.same k h)
          (let lt : c.loop-index.index < length c.loop-index.cells = omega (arith, size, c.loop-index-test.true) in
          get_or-set_same c.loop-index.cells c.loop-index.index c.peek.result 0 lt ∙ c.peek.ensures.value);
    }

pub returns : goal.returns
returns c =
    page_all c.loop-index.cells c.args.session.now.current.bus.memory c.args.number c.loop-index.invariant.size c.is_state.ensures.bus.size (omega arith)
    (λ k h. c.loop-index.invariant.same k (omega (arith, h, c.loop-index-test.false)))
