use Rattle.std.proofs.Common.{◌≡◌, ◌∙◌, ◌+◌, ◌++◌, ◌≤◌, ◌<◌, length, drop, get_or, ap, subst, arith}
use Rattle.formatting.specs.Padding.{padded}
use Rattle.trace_rows.specs.Steps.{store_text, with_stores}
use Rattle.trace_rows.proofs.Rows.{changed_before, changed_reaches, changed_row, next_store, stored}
use Rattle.trace_rows.proofs.steps.push_stores.Goals as goal

pub loop-address-preserved : goal.loop-address-preserved
loop-address-preserved c =
    let from = c.args.from in
    let bus = c.args.session.now.current.bus in
    let i = c.loop-address.address-index in
    let t0 = c.loop-address.text.items in
    let t1 = c.push_blanks.new.text.items in
    let t2 = c.push_store.new.text.items in
    let value = c.as_slice-address-items.ensures.value in
    let within = subst (λ xs. i < length xs) value c.loop-address-test.true in
    let column : c.saturating_add-column.result ≡ c.loop-address.column + 8 = omega arith in
    let row = changed_row from t0 t1 t2 _ _ c.loop-address.invariant.reaches
    c.in_ok-push_blanks.ensures c.in_ok-push_store.ensures in
    record {
      reaches = changed_reaches from t0 t1 t2 _ _ c.loop-address.invariant.reaches c.in_ok-push_blanks.ensures c.in_ok-push_store.ensures;
      before = changed_before from t0 t1 t2 _ _ c.loop-address.invariant.reaches c.in_ok-push_blanks.ensures c.in_ok-push_store.ensures
          ∙ c.loop-address.invariant.before;
      column = omega arith;
      row = ap (λ k. with_stores bus k (drop (i + 1) c.args.stores.now.items) (drop from t2)) column
          ∙ next_store bus c.loop-address.column i (drop from t0) (drop from t2) _ c.args.stores.now.items within
          (row ∙ ap (λ xs. padded c.loop-address.column (drop from t0) ++ store_text bus (get_or xs i 0)) value)
          c.loop-address.invariant.row;
    }

pub returns : goal.returns
returns c =
    let past : length c.args.stores.now.items ≤ c.loop-address.address-index
    = omega (arith, ap length c.as_slice-address-items.ensures.value) in
    stored c.args.session.now.current.bus c.loop-address.column c.loop-address.address-index
    c.args.from c.args.text.now.items c.loop-address.text.items _ c.args.stores.now.items past
    c.loop-address.invariant.before c.loop-address.invariant.row
