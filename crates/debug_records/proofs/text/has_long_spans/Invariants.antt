use Rattle.std.proofs.Common.{◌≡◌, ◌≤◌, drop}
use Rattle.debug_records.specs.Info.{spanned}
use Rattle.debug_records.specs.Views.{info_view}
use Rattle.debug_records.proofs.Totals.{total_of}
use Rattle.debug_records.proofs.text.has_long_spans.Given as goal

abbrev pub invariant-loop-used : goal.invariant-loop-used
invariant-loop-used l = record {
  small : l.total ≤ 16777216;
  rest : spanned (info_view l.fn.info)
      ≡ total_of (info_view l.fn.info) l.total (drop l.used-index l.info.uses.items);
}
