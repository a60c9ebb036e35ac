use Rattle.std.proofs.Common.{◌∙◌, ap, arith, nat_eq}
use Rattle.std.specs.List.{list_any}
use Rattle.model.specs.declared.registers.Regs.{Regs}
use Rattle.mon_steps.specs.BackTexts.{is_at_break}
use Rattle.mon_steps.proofs.Shown.{found, not_here, nowhere}
use Rattle.mon_steps.proofs.back.is_at_break.Goals as goal

pub returns-then-is_break : goal.returns-then-is_break
unfolding is_at_break
returns-then-is_break c =
    found _ _ c.loop-index.index _ _ c.loop-index.invariant
    (omega (arith, c.loop-index-test.true, c.break_count-index-end.ensures)) c.is_break.ensures c.if-is_break.true
    ∙ ap (λ (r : Regs). list_any (nat_eq r.pc) c.args.mon.now.session.breaks) c.regs-pc.ensures

pub loop-index-preserved : goal.loop-index-preserved
loop-index-preserved c =
    not_here _ _ c.loop-index.index _ _ c.loop-index.invariant
    (omega (arith, c.loop-index-test.true, c.break_count-index-end.ensures)) c.is_break.ensures c.if-is_break.false

pub returns : goal.returns
unfolding is_at_break
returns c =
    nowhere _ _ c.loop-index.index _ c.loop-index.invariant
    (omega (arith, c.loop-index-test.false, c.break_count-index-end.ensures))
    ∙ ap (λ (r : Regs). list_any (nat_eq r.pc) c.args.mon.now.session.breaks) c.regs-pc.ensures
