use Rattle.std.proofs.Common.{ℕ, List, drop, ap, arith, ◌∙◌}
use Rattle.arguments.specs.Words.{texts}
use Rattle.word_debug.proofs.Ends.{not_done}
use Rattle.word_debug.proofs.OnImage.{same_ends, same_refuses}
use Rattle.word_debug.proofs.image.strict_debug_image.Goals as goal

pub returns-in-Ok-clause-ended : goal.returns-in-Ok-clause-ended
returns-in-Ok-clause-ended g c =
    let same = c.behind.ensures ∙ ap (λ (w : List (List ℕ)). drop 1 w) (ap texts c.as_slice.ensures.value ∙ c.in-Ok.ensures) in
    same_ends _ _ _ _ same c.serve_image.ensures.ended

pub returns-in-Ok-clause-refused : goal.returns-in-Ok-clause-refused
returns-in-Ok-clause-refused g c =
    let same = c.behind.ensures ∙ ap (λ (w : List (List ℕ)). drop 1 w) (ap texts c.as_slice.ensures.value ∙ c.in-Ok.ensures) in
    same_refuses _ _ _ same c.serve_image.ensures.refused

pub returns-in-Err-clause-ended : goal.returns-in-Err-clause-ended
returns-in-Err-clause-ended g c = λ done. absurd (not_done _ c.refuse.ensures.status done)

pub returns-in-Err-clause-refused : goal.returns-in-Err-clause-refused
returns-in-Err-clause-refused g c = (λ one. absurd (omega (arith, c.refuse.ensures.status, one)), λ two. absurd (omega (arith, c.refuse.ensures.status, two)))
