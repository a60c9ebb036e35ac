use Rattle.std.proofs.Common.{◌≡◌, ◌++◌, drop}
use Rattle.std.specs.Prelude.{string_bytes}
use Rattle.std.specs.List.{flat_map}
use Rattle.word_mend.specs.RecordReports.{sum_text}
use Rattle.word_mend.proofs.record_reports.push_sums.Given as goal

abbrev pub invariant-loop-sum : goal.invariant-loop-sum
invariant-loop-sum l = string_bytes l.words ++ flat_map (sum_text l.was l.right) (drop l.sum-index l.sums) ≡ string_bytes l.initial.words
    ++ flat_map (sum_text l.was l.right) l.sums
