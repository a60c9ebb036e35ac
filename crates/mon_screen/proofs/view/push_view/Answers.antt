use Rattle.mon_screen.proofs.Sizes.{are, rows_are}
use Rattle.mon_screen.proofs.Texts.{five_joined, joined}
use Rattle.mon_screen.specs.View.{view_rows, view_text}
use Rattle.mon_screen.proofs.view.push_view.Goals as goal

pub returns-clause-ok : goal.returns-clause-ok
unfolding view_text view_rows
returns-clause-ok c = joined _ _ _ _ _ c.in_ok-push_text.ensures.ok
    (five_joined _ _ _ _ _ _ _ _ _ _ _ c.in_ok-push_registers.ensures c.in_ok-push_middle.ensures c.in_ok-push_both.ensures
    c.in_ok-push_console.ensures c.in_ok-push_answer.ensures)

pub returns-clause-rows : goal.returns-clause-rows
returns-clause-rows c = rows_are c.args.view c.args.session.now.current c.args.places.now c.args.said.now
    c.args.view.size.high c.args.view.size.not_higher

pub returns-clause-columns : goal.returns-clause-columns
returns-clause-columns c =
    let sized = are c.args.view c.args.session.now.current c.args.places.now c.args.said.now in sized.wide
