use Rattle.std.proofs.Common.{ℕ, Vec, Global}
use Rattle.word_convert.specs.Asked.{convert_view}
use Rattle.word_convert.proofs.Whole.{converted_as, refused_as}
use Rattle.word_convert.proofs.converting.converted.Goals as goal

pub returns-in-Ok-clause-found : goal.returns-in-Ok-clause-found
returns-in-Ok-clause-found c =
    converted_as c.image_written.result (λ (v : Vec ℕ Global). v.items) (convert_view c.args.words.now) c.args.bytes.now c.in-Ok.image
    c.in-Ok.ensures.found c.image_written.ensures.found

pub returns-in-Ok-clause-fault : goal.returns-in-Ok-clause-fault
returns-in-Ok-clause-fault c =
    refused_as c.image_written.result (convert_view c.args.words.now) c.args.bytes.now c.in-Ok.image c.in-Ok.ensures.found c.image_written.ensures.fault
