use Rattle.std.proofs.Common.{ℕ, Option, subst}
use Rattle.image_writer.specs.Window.{IsPart}
use Rattle.word_convert.proofs.converting.part_written.Goals as goal

pub summed_written-requires-clause-part : goal.summed_written-requires-clause-part
summed_written-requires-clause-part c = subst (λ (f : Option ℕ). IsPart c.args.low c.args.high f c.args.image.now c.in-Ok.part)
    c.fill_for-fill.ensures c.in-Ok.ensures
