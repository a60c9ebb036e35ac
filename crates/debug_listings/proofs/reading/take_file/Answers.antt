use Rattle.std.proofs.Common.{arith, refl}
use Rattle.debug_listings.specs.Reading.{reading_view}
use Rattle.debug_listings.proofs.Files.{file_taken}
use Rattle.debug_listings.proofs.reading.take_file.Goals as goal

pub returns : goal.returns
returns c = file_taken c.args.line.now c.args.number c.args.name.now (reading_view c.args.reading.now) c.args.reading.now.info.files.items
    c.put.new.table.items _ (omega (arith, c.if-number-ge-MOST_FILES.false)) refl refl c.in_ok-put.ensures
