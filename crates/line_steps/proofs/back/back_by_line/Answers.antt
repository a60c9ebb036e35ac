use Rattle.std.proofs.Common.{◌≡◌, ◌<◌, ℕ, length, sym, ap, subst, ◌∙◌, arith}
use Rattle.model.specs.declared.registers.Regs.{Regs}
use Rattle.line_steps.specs.Back.{gone_back, highest_with, is_line_back}
use Rattle.line_steps.proofs.Counted.{NoneTo, first_last, first_next, none_more, none_yet}
use Rattle.line_steps.proofs.LinesBack.{there_on}
use Rattle.line_steps.proofs.Returns.{highest_none}
use Rattle.line_steps.proofs.Ways.{back_more, back_none}
use Rattle.line_steps.proofs.back.back_by_line.Goals as goal

pub loop-undone-init : goal.loop-undone-init
loop-undone-init c = record {
  back = back_none c.args.session.now;
  highest = highest_none c.args.session.now;
  first = none_yet (λ (k : ℕ). is_line_back c.args.lines.now c.args.session.now k);
}

pub back_by_one-requires : goal.back_by_one-requires
back_by_one-requires c = omega (arith, c.loop-undone.invariant.back.held, c.loop-undone-test.true, c.held-held.ensures.held)

pub returns-then-is_line-clause-undone : goal.returns-then-is_line-clause-undone
returns-then-is_line-clause-undone c =
    let some : 0 < length c.loop-undone.session.earlier
    = omega (arith, c.loop-undone.invariant.back.held, c.loop-undone-test.true, c.held-held.ensures.held) in
    (back_more c.args.session.now c.loop-undone.session c.back_by_one.new.session c.loop-undone.undone c.loop-undone.invariant.back
    some c.back_by_one.ensures).gone

pub returns-then-is_line-clause-count : goal.returns-then-is_line-clause-count
returns-then-is_line-clause-count c =
    let some : 0 < length c.loop-undone.session.earlier
    = omega (arith, c.loop-undone.invariant.back.held, c.loop-undone-test.true, c.held-held.ensures.held) in
    let there = there_on c.loop-undone.invariant.back c.loop-undone.invariant.highest some c.back_by_one.ensures
    (c.was_return.ensures c.loop-undone.session.current c.cycles-cycles.ensures)
    (c.highest_with-highest.ensures ∙ ap (λ (x : Regs). highest_with c.was_return.result x.s c.loop-undone.highest) c.regs-stack.ensures)
    c.is_line.ensures in
    first_next (length c.args.session.now.earlier) (λ (k : ℕ). is_line_back c.args.lines.now c.args.session.now k) c.loop-undone.undone
    c.loop-undone.invariant.first (sym there.is_line ∙ c.if-is_line.true)
    (omega (arith, c.loop-undone-test.true, c.held-held.ensures.held))

pub loop-undone-preserved : goal.loop-undone-preserved
loop-undone-preserved c =
    let some : 0 < length c.loop-undone.session.earlier
    = omega (arith, c.loop-undone.invariant.back.held, c.loop-undone-test.true, c.held-held.ensures.held) in
    let there = there_on c.loop-undone.invariant.back c.loop-undone.invariant.highest some c.back_by_one.ensures
    (c.was_return.ensures c.loop-undone.session.current c.cycles-cycles.ensures)
    (c.highest_with-highest.ensures ∙ ap (λ (x : Regs). highest_with c.was_return.result x.s c.loop-undone.highest) c.regs-stack.ensures)
    c.is_line.ensures in
    record {
      back = there.back;
      highest = there.highest;
      first = none_more (λ (k : ℕ). is_line_back c.args.lines.now c.args.session.now k) c.loop-undone.undone c.loop-undone.invariant.first
          (sym there.is_line ∙ c.if-is_line.false);
    }

pub returns-clause-undone : goal.returns-clause-undone
returns-clause-undone c =
    let all : c.loop-undone.undone ≡ c.held-held.result = omega (arith, c.loop-undone-test.false, c.loop-undone.auto.undone-end) in
    c.loop-undone.invariant.back.gone ∙ ap (λ (k : ℕ). gone_back k c.args.session.now) all

pub returns-clause-count : goal.returns-clause-count
returns-clause-count c =
    let all : c.loop-undone.undone ≡ length c.args.session.now.earlier
    = omega (arith, c.loop-undone-test.false, c.loop-undone.auto.undone-end, c.held-held.ensures.held) in
    c.held-held.ensures.held
    ∙ first_last (length c.args.session.now.earlier) (λ (k : ℕ). is_line_back c.args.lines.now c.args.session.now k)
    (subst (NoneTo (λ (k : ℕ). is_line_back c.args.lines.now c.args.session.now k)) all c.loop-undone.invariant.first)
