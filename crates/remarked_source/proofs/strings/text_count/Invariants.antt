use Rattle.std.proofs.Common.{◌≡◌, ℕ, ◌+◌, ◌-◌, ◌<◌, ◌≤◌, true}
use Rattle.source_forms.specs.Rows.{is_kind, mark_at}
use Rattle.source_forms.specs.declared.mark.Mark.TheVariants.{Text}
use Rattle.remarked_source.proofs.strings.text_count.Given as goal

abbrev pub invariant-loop-count : goal.invariant-loop-count
invariant-loop-count l = record {
  few : l.count ≤ l.most;
  each : (k : ℕ) → k < l.count → is_kind Text (mark_at l.marks (l.address + k)) ≡ true;
}

abbrev pub decreases-loop-count : goal.decreases-loop-count
decreases-loop-count l = l.most - l.count
