use Rattle.std.proofs.Common.{◌≡◌, arith, sym, subst}
use Rattle.std.proofs.lemmas.Bool.{eqb-true, eqb-false}
use Rattle.commands.proofs.Inputs.{Meets, meets_none, meets_all, meets_bad, meets_more, meets_too_many}
use Rattle.commands.proofs.command_line.input_command.Goals as goal

pub loop-count-init : goal.loop-count-init
loop-count-init c = meets_none c.args.line.now

pub returns-then-is_empty : goal.returns-then-is_empty
returns-then-is_empty c = meets_all c.args.line.now c.loop-count.bytes c.loop-count.count c.loop-count.rest.now c.next_word.result.0.now
    c.next_word.result.1.now c.loop-count.invariant (omega (arith, c.loop-count-test.true)) c.next_word.ensures.word (eqb-true _ _ (sym c.if-is_empty.ensures))

pub returns-in-None : goal.returns-in-None
returns-in-None c = meets_bad c.args.line.now c.loop-count.bytes c.loop-count.count c.loop-count.rest.now c.next_word.result.0.now
    c.next_word.result.1.now c.loop-count.invariant c.next_word.ensures.word (eqb-false _ _ (sym c.if-is_empty.ensures)) (sym c.in-None.ensures)

pub loop-count-preserved : goal.loop-count-preserved
loop-count-preserved c = meets_more c.args.line.now c.loop-count.bytes c.loop-count.count c.loop-count.rest.now c.next_word.result.0.now
    c.next_word.result.1.now c.in-Some.byte c.loop-count.invariant c.loop-count-test.true c.next_word.ensures.word
    (eqb-false _ _ (sym c.if-is_empty.ensures)) (sym c.in-Some.ensures)

pub returns-then-is_empty-2 : goal.returns-then-is_empty-2
returns-then-is_empty-2 c =
    let last : c.loop-count.count ≡ 16 = omega (arith, c.loop-count-test.false, c.loop-count.auto.count-end) in
    meets_all c.args.line.now c.loop-count.bytes 16 c.loop-count.rest.now c.next_word-2.result.0.now c.next_word-2.result.1.now
    (subst (λ n. Meets c.args.line.now c.loop-count.bytes n c.loop-count.rest.now) last c.loop-count.invariant) (omega arith)
    c.next_word-2.ensures.word (eqb-true _ _ (sym c.if-is_empty-2.ensures))

pub returns-else-is_empty-2 : goal.returns-else-is_empty-2
returns-else-is_empty-2 c =
    let last : c.loop-count.count ≡ 16 = omega (arith, c.loop-count-test.false, c.loop-count.auto.count-end) in
    meets_too_many c.args.line.now c.loop-count.bytes c.loop-count.rest.now c.next_word-2.result.0.now c.next_word-2.result.1.now
    (subst (λ n. Meets c.args.line.now c.loop-count.bytes n c.loop-count.rest.now) last c.loop-count.invariant) c.next_word-2.ensures.word
    (eqb-false _ _ (sym c.if-is_empty-2.ensures))
