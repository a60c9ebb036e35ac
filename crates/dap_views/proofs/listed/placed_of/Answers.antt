use Rattle.std.proofs.Common.{◌∙◌, ◌++◌, ℕ, List, ap, arith}
use Rattle.dap_messages.specs.declared.listed.Placed.{Placed}
use Rattle.dap_views.proofs.Numbered.{placed_done, placed_more}
use Rattle.dap_views.specs.Answered.{placed_at, placed_of}
use Rattle.dap_views.proofs.listed.placed_of.Goals as goal

pub loop-wanted-init : goal.loop-wanted-init
loop-wanted-init c = ap (λ (found : List Placed). found ++ placed_of c.args.file c.args.first c.args.told.now) c.new-placed.ensures.items

pub loop-wanted-preserved : goal.loop-wanted-preserved
loop-wanted-preserved c = placed_more c.args.file c.args.told.now c.loop-wanted.wanted-index c.loop-wanted.id _
    c.wanted-item.result c.loop-wanted.placed.items _ _
    (omega (arith, c.loop-wanted-test.true)) c.wanted-item.is c.next_number-id.ensures
    (c.in_ok-push_placed.ensures ∙ ap (λ (all : List ℕ). c.loop-wanted.placed.items ++ placed_at c.args.file c.loop-wanted.id all) c.as_slice.ensures.value)
    c.loop-wanted.invariant

pub returns : goal.returns
returns c = placed_done c.args.file c.args.told.now c.loop-wanted.wanted-index c.loop-wanted.id _ _
    (omega (arith, c.loop-wanted-test.false)) c.loop-wanted.invariant
