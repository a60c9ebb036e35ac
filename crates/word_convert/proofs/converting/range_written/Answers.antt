use Rattle.word_convert.specs.Asked.{convert_view}
use Rattle.word_convert.proofs.Whole.{not_written}
use Rattle.word_convert.proofs.converting.range_written.Goals as goal

pub returns-in-Ok-clause-found : goal.returns-in-Ok-clause-found
returns-in-Ok-clause-found c = record { low = c.args.low; high = c.args.high; range = c.requires.range; written = c.in-Ok.ensures.found }

pub returns-in-Err-clause-fault : goal.returns-in-Err-clause-fault
returns-in-Err-clause-fault c = not_written (convert_view c.args.words.now) c.args.image.now c.args.low c.args.high c.in-Err.why c.requires.range
    c.in-Err.ensures.fault
