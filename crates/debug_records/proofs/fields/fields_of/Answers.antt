use Rattle.std.proofs.Common.{◌≡◌, ◌==◌, ◌∙◌, ◌-◌, ◌+◌, Err, [], ap, arith, false, length, map, sym, true}
use Rattle.std.proofs.lemmas.List.{take_rest}
use Rattle.debug_records.specs.Fields.{fields_within}
use Rattle.debug_records.specs.Views.{field_view}
use Rattle.debug_records.proofs.Passing.{passed_on}
use Rattle.debug_records.proofs.Ways.{field_last, field_more, field_refused, no_field_left}
use Rattle.debug_records.proofs.fields.fields_of.Goals as goal

pub loop-init : goal.loop-init
loop-init c =
    let whole : length c.args.text.now - 0 ≡ length c.args.text.now = omega arith in
    record {
      read = sym (ap (λ n. fields_within n [] c.args.text.now) whole)
          ∙ ap (λ front. fields_within (length c.args.text.now - 0) (map field_view front) c.args.text.now) (sym c.new-fields.ensures.items);
    }

pub returns-in-Err : goal.returns-in-Err
returns-in-Err c = passed_on c.in-Err.why _ _
    (λ fault k. c.loop.invariant.read ∙ field_refused (length c.args.text.now - c.loop.counter) (length c.args.text.now - (c.loop.counter + 1)) _ _
    fault (omega arith) k)
    c.in-Err.ensures

pub returns-then-is_empty : goal.returns-then-is_empty
returns-then-is_empty c =
    let none : (length c.in-Ok.behind.now == 0) ≡ true = cc in
    c.loop.invariant.read ∙ field_last (length c.args.text.now - c.loop.counter) (length c.args.text.now - (c.loop.counter + 1)) _ _ _ _ (omega arith)
    c.in-Ok.ensures none

pub loop-preserved : goal.loop-preserved
loop-preserved c =
    let some : (length c.in-Ok.behind.now == 0) ≡ false = cc in
    record {
      read = rw (take_rest c.in-Ok.behind.now 1)
          (c.loop.invariant.read ∙ field_more (length c.args.text.now - c.loop.counter) (length c.args.text.now - (c.loop.counter + 1)) _ _ _ _
          (omega arith) c.in-Ok.ensures some);
    }

pub returns : goal.returns
returns c = c.loop.invariant.read ∙ (no_field_left (length c.args.text.now - c.loop.counter) _ _ (omega arith) ∙ ap Err (sym c.fault_at.ensures))
