use Rattle.t65_reports.proofs.Joined.{four}
use Rattle.t65_reports.proofs.reports.push_fault_front.Goals as goal

pub returns : goal.returns
returns c = four _ _ _ _ _ _ _ _ _ c.in_ok-push_str.ensures.bytes c.in_ok-push_name.ensures c.in_ok-push_str-2.ensures.bytes c.in_ok-push_place.ensures
