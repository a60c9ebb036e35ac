use Rattle.t65_reports.proofs.RowText.{trimmed}
use Rattle.t65_reports.proofs.reports.row_of.Goals as goal

pub returns : goal.returns
returns c = trimmed c.args.line.now c.without_comment.result.now c.trim_ascii.result.now c.without_comment.ensures c.trim_ascii.ensures.value
