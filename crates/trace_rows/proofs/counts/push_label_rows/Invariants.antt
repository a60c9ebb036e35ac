use Rattle.std.proofs.Common.{◌≡◌, ◌++◌, drop}
use Rattle.trace_rows.specs.Counts.{label_rows}
use Rattle.trace_rows.proofs.counts.push_label_rows.Given as goal

abbrev pub invariant-loop-label : goal.invariant-loop-label
invariant-loop-label l = record {
  index : l.index ≡ l.label-index;
  rows : l.text.items ++ label_rows l.sites l.counts l.index (drop l.label-index l.sites.labels.items) ≡ l.initial.text.items
      ++ label_rows l.sites l.counts 0 l.sites.labels.items;
}
