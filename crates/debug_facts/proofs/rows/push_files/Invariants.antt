use Rattle.std.proofs.Common.{◌≤◌, length}
use Rattle.std.specs.Prelude.{string_bytes}
use Rattle.debug_records.specs.Views.{info_view}
use Rattle.debug_facts.proofs.Filed.{Left}
use Rattle.debug_facts.proofs.rows.push_files.Given as goal

abbrev pub invariant-loop-number : goal.invariant-loop-number
invariant-loop-number l = record {
  few : l.number ≤ length l.info.files.items;
  left : Left (info_view l.info) l.states (string_bytes l.initial.words) (string_bytes l.words) l.number;
}
