use Rattle.std.proofs.Common.{ℕ, Vec, Global}
use Rattle.word_convert.specs.Asked.{convert_view}
use Rattle.word_convert.proofs.Whole.{joined_as, unjoined_as}
use Rattle.word_convert.proofs.converting.union_written.Goals as goal

pub returns-in-Ok-clause-found : goal.returns-in-Ok-clause-found
returns-in-Ok-clause-found c =
    joined_as c.image_written.result (λ (v : Vec ℕ Global). v.items) (convert_view c.args.words.now) c.args.bytes.now c.args.one.now c.args.other.now
    c.in-Ok.both
    c.requires.denotes c.requires.agrees c.in-Ok.ensures c.image_written.ensures.found

pub returns-in-Ok-clause-fault : goal.returns-in-Ok-clause-fault
returns-in-Ok-clause-fault c =
    unjoined_as c.image_written.result (convert_view c.args.words.now) c.args.bytes.now c.args.one.now c.args.other.now c.in-Ok.both
    c.requires.denotes c.in-Ok.ensures c.image_written.ensures.fault
