use Rattle.t65_reports.specs.Reports.{case_front}
use Rattle.t65_reports.proofs.Joined.{five}
use Rattle.t65_reports.proofs.reports.push_case_front.Goals as goal

pub returns : goal.returns
unfolding case_front
returns c = five _ _ _ _ _ _ _ _ _ _ _ c.in_ok-push_str.ensures.bytes c.in_ok-push_name.ensures c.in_ok-push_line.ensures c.in_ok-push_xml_row.ensures
    c.in_ok-push_place.ensures
