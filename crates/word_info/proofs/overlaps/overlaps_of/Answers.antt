use Rattle.std.proofs.Common.{ℕ, List, Option, ap, ◌∙◌}
use Rattle.std.proofs.lemmas.Result.{IfOk-weaker}
use Rattle.word_info.specs.Facts.{ranges_of}
use Rattle.word_info.proofs.overlaps.overlaps_of.Goals as goal

pub returns : goal.returns
returns c = IfOk-weaker c.ranges_of.result _ _ (λ ranges e. λ cells tape. e
    ∙ ap (λ (x : List (Option ℕ)). ranges_of x) (c.cells.ensures.same ∙ c.in_ok-again.ensures cells tape)) c.ranges_of.ensures
