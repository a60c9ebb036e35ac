-- What stands beside lines, without where it lies in memory.
use Rattle.remarked_source.specs.Rows.{Beside}
use Rattle.remarked_source.specs.declared.beside.Beside.{Beside as Held}

abbrev pub beside_view : Held → Beside
beside_view b = record { addresses = b.addresses; remarks = b.remarks.now; texts = b.texts.now }
