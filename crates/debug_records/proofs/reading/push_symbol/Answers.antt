use Rattle.std.proofs.Common.{map, refl}
use Rattle.debug_records.specs.Views.{field_view, reading_view}
use Rattle.debug_records.proofs.Pushed.{symbol_given}
use Rattle.debug_records.proofs.reading.push_symbol.Goals as goal

pub returns : goal.returns
returns c = symbol_given c.put_new.result (map field_view c.args.fields.now) (reading_view c.args.reading.now) c.args.reading.now.info.symbols.items
    c.put_new.new.table.items c.in_ok-id.id c.in_ok-symbol.symbol
    refl c.in_ok-id.ensures c.in_ok-symbol.ensures c.put_new.ensures
