use Rattle.mon_screen.proofs.Texts.{rows_joined}
use Rattle.mon_screen.proofs.view.push_answer.Goals as goal

pub returns : goal.returns
returns c = rows_joined _ _ _ _ _ c.in_ok-push_title_row.ensures c.in_ok-push_page.ensures
