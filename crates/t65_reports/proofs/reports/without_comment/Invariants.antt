use Rattle.std.proofs.Common.{◌≡◌, ◌++◌, take, drop}
use Rattle.t65_reports.specs.Reports.{before_comment}
use Rattle.t65_reports.specs.declared.reports.Quoted.TheVariants.{Outside}
use Rattle.t65_reports.proofs.reports.without_comment.Given as goal

abbrev pub invariant-loop-at : goal.invariant-loop-at
invariant-loop-at l = take l.at l.line ++ before_comment l.quoted (drop l.at l.line) ≡ before_comment Outside l.line
