use Rattle.std.proofs.Common.{◌≡◌, ◌∙◌, ◌-◌, sym, ap, arith, length, ◌+◌, Err}
use Rattle.t65_reader.specs.RowText.{before, items_within}
use Rattle.t65_reader.proofs.Items.{before_none, over, not_over, item_read, item_refused}
use Rattle.t65_reader.proofs.Passed.{passed}
use Rattle.t65_reader.proofs.item.items_of.Goals as goal

pub loop-init : goal.loop-init
loop-init c =
    let whole : length c.args.text.now - 0 ≡ length c.args.text.now = omega arith in
    record {
      read = ap (λ front. before front (items_within (length c.args.text.now - 0) c.args.names.now.names c.args.letters c.args.side c.args.text.now))
          c.new-found.ensures.items
          ∙ (before_none _ ∙ ap (λ n. items_within n c.args.names.now.names c.args.letters c.args.side c.args.text.now) whole);
    }

pub returns-then-is_over-clause-ok : goal.returns-then-is_over-clause-ok
returns-then-is_over-clause-ok c = sym c.loop.invariant.read ∙ over _ _ _ _ _ _ (sym c.is_over.ensures ∙ c.if-is_over.true)

pub returns-then-is_over-2-clause-ok : goal.returns-then-is_over-2-clause-ok
returns-then-is_over-2-clause-ok c = sym c.loop.invariant.read ∙ over _ _ _ _ _ _ (sym c.is_over-2.ensures ∙ c.if-is_over-2.true)

pub loop-preserved : goal.loop-preserved
loop-preserved c = record {
  read = item_read (length c.args.text.now - c.loop.counter) (length c.args.text.now - (c.loop.counter + 1)) _ _ _ _ _ _ _
      (omega arith) (sym c.is_over.ensures ∙ c.if-is_over.false) c.in_ok-rest.ensures.ok ∙ c.loop.invariant.read;
}

pub returns-in_err-rest-clause-err : goal.returns-in_err-rest-clause-err
returns-in_err-rest-clause-err c = passed _ c.from_residual.result c.in_err-rest.field-0.0 c.from_residual.ensures.1
    (λ other. sym c.loop.invariant.read ∙ item_refused (length c.args.text.now - c.loop.counter) (length c.args.text.now - (c.loop.counter + 1)) _ _ _
    _ _ _ (omega arith) (sym c.is_over.ensures ∙ c.if-is_over.false) (c.in_err-rest.ensures.err other))

pub returns-clause-err : goal.returns-clause-err
returns-clause-err c = λ other. sym c.loop.invariant.read ∙ (not_over (length c.args.text.now - c.loop.counter) _ _ _ _ _ (omega arith)
    (sym c.is_over-2.ensures ∙ c.if-is_over-2.false) ∙ ap Err (sym c.lack_at.ensures))
