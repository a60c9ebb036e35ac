use Rattle.mon_calls.proofs.Told.{told_locals}
use Rattle.mon_calls.proofs.locals.push_locals.Goals as goal

pub returns : goal.returns
returns c =
    told_locals c.push_found.result c.args.session.now.current c.args.places.now c.args.number c.args.text.now.items c.push_found.new.text.items
    c.in_ok-tables.tables c.in_ok-tables.ensures c.push_found.ensures
