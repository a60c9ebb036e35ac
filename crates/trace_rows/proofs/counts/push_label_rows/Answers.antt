use Rattle.std.proofs.Common.{◌∙◌, ◌++◌, sym, ap, arith, drop}
use Rattle.std.proofs.lemmas.List.{append-nil}
use Rattle.trace_rows.specs.Counts.{label_row}
use Rattle.trace_rows.proofs.Tables.{label_step, no_labels, rest_at, rest_past}
use Rattle.trace_rows.proofs.counts.push_label_rows.Goals as goal

pub loop-label-preserved : goal.loop-label-preserved
loop-label-preserved c =
    let sites = c.args.sites.now in
    let rest = rest_at sites.labels.items c.labels-label-items.result.now c.loop-label.label-index c.label-item.result c.labels-label-items.ensures
    c.loop-label-test.true c.label-item.is in
    record {
      index = omega (arith, c.loop-label.invariant.index);
      rows = label_step sites c.args.counts.now c.loop-label.index c.loop-label.label-index sites.labels.items c.label-item.result
          c.loop-label.text.items c.push_label.new.text.items _ rest
          (c.in_ok-push_label.ensures ∙ ap (λ k. c.loop-label.text.items ++ label_row sites c.label-item.result k) c.count_in.ensures)
          c.loop-label.invariant.rows;
    }

pub returns : goal.returns
returns c =
    let text = c.loop-label.text.items in
    let labels = c.args.sites.now.labels.items in
    let i = c.loop-label.label-index in
    let past = rest_past labels c.labels-label-items.result.now i c.labels-label-items.ensures c.loop-label-test.false in
    sym (ap (λ r. text ++ r) (no_labels c.args.sites.now c.args.counts.now c.loop-label.index (drop i labels) past) ∙ append-nil text)
    ∙ c.loop-label.invariant.rows
