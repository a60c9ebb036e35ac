use Rattle.std.proofs.Common.{◌∙◌, ◌-◌, ap, false, refl, sym}
use Rattle.word_trace.specs.Gathered.{counted_step, gathered}
use Rattle.word_trace.proofs.Counting.{counts_only, tells_nothing}
use Rattle.word_trace.proofs.turns.take_counted_turn.Goals as goal

pub returns-clause-noted : goal.returns-clause-noted
returns-clause-noted c = λ _.
    let s = c.args.session.now.current in
    let t = c.take_plain_turn.new.session.current in
    let cycles = c.saturating_sub-cycles.result in
    c.count.ensures.counted ∙ ap (λ r. counted_step false r.pc cycles (gathered c.args.tracer.now)) c.regs-regs.ensures
    ∙ counts_only (gathered c.args.tracer.now) s t cycles (c.if-not-touches_no_other.ensures refl) (c.if-not-take_plain_turn.ensures.entry refl)
    (c.saturating_sub-cycles.ensures ∙ ap (λ n. n - c.cycles-before.result) c.cycles.ensures ∙ ap (λ n. t.cycles - n) c.cycles-before.ensures)

pub returns-clause-text : goal.returns-clause-text
returns-clause-text c = λ _.
    tells_nothing (gathered c.args.tracer.now) c.args.session.now.current c.take_plain_turn.new.session.current
    (sym c.has_no_rows.ensures ∙ c.if-not-has_no_rows.false)
    (c.if-not-touches_no_other.ensures refl) (c.if-not-take_plain_turn.ensures.entry refl)

pub returns-clause-made : goal.returns-clause-made
returns-clause-made c = λ _. c.if-not-take_plain_turn.ensures.made refl

pub returns-then-not-take_plain_turn-clause-not : goal.returns-then-not-take_plain_turn-clause-not
returns-then-not-take_plain_turn-clause-not c = λ _.
    let same = c.if-not-take_plain_turn.ensures.not refl in (same.0, same.1, refl)
