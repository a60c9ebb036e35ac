use Rattle.t65_reports.proofs.Joined.{five}
use Rattle.t65_reports.proofs.reports.push_failure.Goals as goal

pub returns : goal.returns
returns c = five _ _ _ _ _ _ _ _ _ _ _ c.in_ok-push_str.ensures.bytes c.in_ok-push_value.ensures c.in_ok-push_str-2.ensures.bytes
    c.in_ok-push_xml_text.ensures c.in_ok-push_str-3.ensures.bytes
