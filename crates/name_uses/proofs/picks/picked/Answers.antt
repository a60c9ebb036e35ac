use Rattle.std.proofs.Common.{arith, sym, ◌∙◌}
use Rattle.name_uses.proofs.PickedSteps.{one_more, other_name, picked_done}
use Rattle.name_uses.proofs.picks.picked.Goals.{then-is_picked+in_ok-push, else-is_picked}
use Rattle.name_uses.proofs.picks.picked.Goals as goal

pub loop-one-preserved : goal.loop-one-preserved
loop-one-preserved c =
    elim c.if-is_picked.branch [
      | then-is_picked+in_ok-push w ↦
          rw w.found-is (one_more c.args.part c.args.name.now c.args.uses.now c.loop-one.one-index _ c.loop-one.found.items _ _
          (omega (arith, c.loop-one-test.true)) (sym c.is_picked.ensures ∙ w.if-is_picked.true) w.in_ok-push.ensures.items c.loop-one.invariant)
      | else-is_picked w ↦
          rw w.found-is (other_name c.args.part c.args.name.now c.args.uses.now c.loop-one.one-index _ _ _ (omega (arith, c.loop-one-test.true))
          (sym c.is_picked.ensures ∙ w.if-is_picked.false) c.loop-one.invariant)
    ]

pub returns : goal.returns
returns c = picked_done c.args.part c.args.name.now c.args.uses.now c.loop-one.one-index _ _ (omega (arith, c.loop-one-test.false)) c.loop-one.invariant
