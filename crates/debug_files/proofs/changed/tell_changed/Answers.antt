use Rattle.debug_files.proofs.Told.{told_changed, told_of}
use Rattle.debug_files.specs.Changed.{sought_view}
use Rattle.debug_files.proofs.changed.tell_changed.Goals as goal

pub returns-in-Some-clause-exact : goal.returns-in-Some-clause-exact
returns-in-Some-clause-exact g c = told_of c.args.file c.in-Some.file (sought_view c.args.sought.now) (g.E.Write.contents c.args.errors.now)
    (g.E.Write.contents c.tell_each.new.errors) c.in-Some.is c.tell_each.ensures

pub returns-in-Some-clause-told : goal.returns-in-Some-clause-told
returns-in-Some-clause-told g c = told_changed c.args.file c.in-Some.file (sought_view c.args.sought.now) (g.E.Write.contents c.args.errors.now)
    (g.E.Write.contents c.tell_each.new.errors) c.in-Some.is c.tell_each.ensures
