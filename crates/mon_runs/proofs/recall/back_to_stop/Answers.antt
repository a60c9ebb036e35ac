use Rattle.std.proofs.Common.{◌≡◌, ◌+◌, ◌-◌, ℕ, suc, length, true, false, sym, ap, subst, ◌∙◌, arith}
use Rattle.model.specs.Session.{Session}
use Rattle.mon_runs.specs.Noted.{AreBytesAt}
use Rattle.mon_runs.specs.Recall.{is_stop, recalled, last_stop}
use Rattle.mon_runs.proofs.Found.{recalled-none, recalled-stop, recalled-on, length-back_one}
use Rattle.mon_runs.proofs.recall.back_to_stop.Goals as goal

pub returns-then-is_stopped : goal.returns-then-is_stopped
returns-then-is_stopped c =
    let stops = c.args.stops.now in
    let undone = c.loop-undone.undone in
    let before = c.loop-undone.session in
    let new = c.back_by_one.new.session in
    let n = c.held-held.result - (undone + 1) in
    let noted : AreBytesAt stops.changes.items before.current c.note_bytes.new.bytes
    = subst (λ xs. AreBytesAt xs before.current c.note_bytes.new.bytes) c.as_slice.ensures.value c.note_bytes.ensures in
    let some : c.held-held.result - undone ≡ suc n = omega (arith, c.loop-undone-test.true) in
    let met : is_stop new.breaks stops new.current before.current ≡ true =
    sym (c.is_stopped.ensures before.current noted c.regs-after.ensures) ∙ c.if-is_stopped.true in
    c.loop-undone.invariant.left
    ∙ ap (λ (p : ℕ × Session). (undone + p.0, p.1)) (ap (λ j. recalled stops j before) some ∙ recalled-stop stops n before new c.back_by_one.ensures met)

pub loop-undone-preserved : goal.loop-undone-preserved
loop-undone-preserved c =
    let stops = c.args.stops.now in
    let undone = c.loop-undone.undone in
    let before = c.loop-undone.session in
    let new = c.back_by_one.new.session in
    let n = c.held-held.result - (undone + 1) in
    let noted : AreBytesAt stops.changes.items before.current c.note_bytes.new.bytes
    = subst (λ xs. AreBytesAt xs before.current c.note_bytes.new.bytes) c.as_slice.ensures.value c.note_bytes.ensures in
    let some : c.held-held.result - undone ≡ suc n = omega (arith, c.loop-undone-test.true) in
    let not_met : is_stop new.breaks stops new.current before.current ≡ false =
    sym (c.is_stopped.ensures before.current noted c.regs-after.ensures) ∙ c.if-is_stopped.false in
    let rest = recalled stops n new in
    let sum : undone + suc rest.0 ≡ (undone + 1) + rest.0 = omega arith in
    let fewer : length new.earlier ≡ length before.earlier - 1 = length-back_one before new c.back_by_one.ensures in
    record {
      held = omega (arith, fewer, c.loop-undone.invariant.held);
      left = c.loop-undone.invariant.left
          ∙ ap (λ (p : ℕ × Session). (undone + p.0, p.1)) (ap (λ j. recalled stops j before) some
          ∙ recalled-on stops n before new c.back_by_one.ensures not_met)
          ∙ (λ i. (sum i, rest.1));
    }

pub returns : goal.returns
returns c =
    let stops = c.args.stops.now in
    let undone = c.loop-undone.undone in
    let none : c.held-held.result - undone ≡ 0 = omega (arith, c.loop-undone-test.false) in
    let all : undone + 0 ≡ c.held-held.result = omega (arith, c.loop-undone-test.false) in
    c.loop-undone.invariant.left
    ∙ ap (λ (p : ℕ × Session). (undone + p.0, p.1)) (ap (λ j. recalled stops j c.loop-undone.session) none ∙ recalled-none stops c.loop-undone.session)
    ∙ (λ i. (all i, c.loop-undone.session))
