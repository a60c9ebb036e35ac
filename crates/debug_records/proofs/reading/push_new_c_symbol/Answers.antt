use Rattle.std.proofs.Common.{refl}
use Rattle.debug_records.specs.Views.{reading_view}
use Rattle.debug_records.proofs.Pushed.{c_symbol_given}
use Rattle.debug_records.proofs.reading.push_new_c_symbol.Goals as goal

pub returns : goal.returns
returns c = c_symbol_given c.put_new.result (reading_view c.args.reading.now) c.args.reading.now.info.c_symbols.items
    c.put_new.new.table.items c.args.id c.args.name refl c.put_new.ensures
