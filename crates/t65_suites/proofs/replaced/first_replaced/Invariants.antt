use Rattle.std.proofs.Common.{◌≡◌, drop, map}
use Rattle.std.specs.List.{list_any}
use Rattle.t65_suites.specs.Replaced.{is_read}
use Rattle.t65_suites.specs.Suites.{suite_view}
use Rattle.t65_suites.proofs.replaced.first_replaced.Given as goal

abbrev pub invariant-loop-index : goal.invariant-loop-index
invariant-loop-index g l = list_any (is_read l.report) (map suite_view l.suites) ≡ list_any (is_read l.report) (map suite_view (drop l.index l.suites))
