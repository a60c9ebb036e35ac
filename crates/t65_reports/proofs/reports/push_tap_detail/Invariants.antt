use Rattle.std.proofs.Common.{◌≡◌, ◌++◌, drop, length}
use Rattle.std.specs.Prelude.{string_bytes}
use Rattle.std.specs.List.{flat_map}
use Rattle.std.specs.Str.Lines.{lines}
use Rattle.t65_reports.specs.Reports.{tap_comment}
use Rattle.t65_reports.proofs.reports.push_tap_detail.Given as goal

abbrev pub invariant-loop-line : goal.invariant-loop-line
invariant-loop-line l = string_bytes l.tap ++ flat_map tap_comment (drop (length l.yielded) (lines l.detail))
    ≡ string_bytes l.initial.tap ++ flat_map tap_comment (lines l.detail)
