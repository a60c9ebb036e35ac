use Rattle.std.proofs.Common.{◌≡◌, ◌∙◌, ◌-◌, ◌+◌, [], ap, arith, length, sym}
use Rattle.debug_records.specs.Numbers.{numbers_within}
use Rattle.debug_records.proofs.Passing.{passed_on}
use Rattle.debug_records.proofs.Ways.{no_number_left, number_last, number_more, number_refused}
use Rattle.debug_records.proofs.numbers.numbers_within.Goals as goal

pub loop-init : goal.loop-init
loop-init c =
    let whole : length c.args.text.now - 0 ≡ length c.args.text.now = omega arith in
    record {
      read = sym (ap (λ n. numbers_within n [] c.args.first c.args.text.now) whole)
          ∙ ap (λ front. numbers_within (length c.args.text.now - 0) front c.args.first c.args.text.now) (sym c.new-numbers.ensures.items);
    }

pub returns-in-Err : goal.returns-in-Err
returns-in-Err c = passed_on c.in-Err.why _ _
    (λ fault k. c.loop.invariant.read ∙ number_refused (length c.args.text.now - c.loop.counter) (length c.args.text.now - (c.loop.counter + 1)) _ _ _
    fault (omega arith) k)
    c.in-Err.ensures

pub returns-then-is_last : goal.returns-then-is_last
returns-then-is_last c = c.loop.invariant.read
    ∙ number_last (length c.args.text.now - c.loop.counter) (length c.args.text.now - (c.loop.counter + 1)) _ _ _ _ (omega arith) c.in-Ok.ensures
    (sym c.is_last.ensures ∙ c.if-is_last.true)

pub loop-preserved : goal.loop-preserved
loop-preserved c =
    let n = length c.args.text.now - (c.loop.counter + 1) in
    let left = c.left_behind-left.ensures in
    record {
      read = c.loop.invariant.read
          ∙ (number_more (length c.args.text.now - c.loop.counter) n _ _ _ _ (omega arith) c.in-Ok.ensures (sym c.is_last.ensures ∙ c.if-is_last.false)
          ∙ cc);
    }

pub returns : goal.returns
returns c = c.loop.invariant.read ∙ no_number_left (length c.args.text.now - c.loop.counter) _ _ _ (omega arith)
