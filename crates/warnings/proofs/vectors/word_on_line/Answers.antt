use Rattle.std.proofs.Common.{List, ap, ◌∙◌}
use Rattle.std.specs.Prelude.{slice_get}
use Rattle.model.specs.Expression.{Term}
use Rattle.warnings.proofs.vectors.word_on_line.Goals as goal

pub returns : goal.returns
returns c = c.word_at.ensures ∙ ap (λ (es : List Term). slice_get es c.args.index) c.words_of_line.ensures
