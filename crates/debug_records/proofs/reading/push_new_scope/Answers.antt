use Rattle.std.proofs.Common.{refl}
use Rattle.debug_records.specs.Views.{reading_view}
use Rattle.debug_records.proofs.Pushed.{scope_given}
use Rattle.debug_records.proofs.reading.push_new_scope.Goals as goal

pub returns : goal.returns
returns c = scope_given c.put_new.result (reading_view c.args.reading.now) c.args.reading.now.info.scopes.items
    c.put_new.new.table.items c.args.id c.args.scope refl c.put_new.ensures
