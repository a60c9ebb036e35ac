use Rattle.mon_screen.proofs.Texts.{rows_joined}
use Rattle.mon_screen.proofs.cells.push_titled.Goals as goal

pub returns : goal.returns
returns c = rows_joined _ _ _ _ _ c.in_ok-push_title.ensures c.in_ok-push_last.ensures
