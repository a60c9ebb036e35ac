use Rattle.std.proofs.Common.{◌++◌, ◌∙◌, sym, ap, append-nil, List, ℕ}
use Rattle.std.specs.Prelude.{string_bytes}
use Rattle.t65_reader.specs.RowText.{row_seen}
use Rattle.t65_failures.specs.Failures.{told_text}
use Rattle.t65_failures.proofs.Told.{appended, no_row_left, one_failed, one_passed}
use Rattle.t65_failures.proofs.detail.push_calls.Goals as goal

pub loop-row-preserved : goal.loop-row-preserved
loop-row-preserved c = record {
  text = c.in_ok-push_call.ensures.same c.if-not-branch.false ∙ c.loop-row.invariant.text;
  told = one_passed c.args.places.now c.args.ranges c.args.values c.args.rows.now c.loop-row.row-index c.loop-row.session c.row-item.result _ _
      c.loop-row-test.true c.row-item.is (c.in_ok-push_call.ensures.passes c.if-not-branch.false) c.loop-row.invariant.told;
  stops = c.in_ok-push_call.ensures.stops c.if-not-branch.false;
}

pub returns-then-not-branch : goal.returns-then-not-branch
returns-then-not-branch c =
    let about = c.deref.ensures ∙ c.in_ok-about.ensures in
    appended _ _ _ _ _ (ap (λ t. string_bytes t) c.loop-row.invariant.text) (c.in_ok-push_call.ensures.told c.if-not-branch.true)
    (ap (λ (a : List ℕ). told_text c.args.places.now a c.args.values (row_seen c.row-item.result).1.call c.loop-row.session) about
    ∙ one_failed c.args.places.now c.args.ranges c.args.values c.args.rows.now c.loop-row.row-index c.loop-row.session c.row-item.result _
    c.loop-row-test.true c.row-item.is (c.in_ok-push_call.ensures.fails c.if-not-branch.true) c.loop-row.invariant.told)

pub returns : goal.returns
returns c =
    ap (λ t. string_bytes t) c.loop-row.invariant.text
    ∙ (sym (append-nil (string_bytes c.args.text.now))
    ∙ ap (λ (t : List ℕ). string_bytes c.args.text.now ++ t)
    (no_row_left c.args.places.now c.args.ranges c.args.values c.args.rows.now c.loop-row.row-index c.loop-row.session _ c.loop-row-test.false
    c.loop-row.invariant.told))
