-- Words that were appended twice.
use Rattle.std.proofs.Common.{◌≡◌, ◌∙◌, List, ◌++◌, ap, append_assoc}

pub joined : {A : Type 0} (first second third one two all : List A) → one ≡ first → two ≡ one ++ second → all ≡ two ++ third
    → all ≡ first ++ (second ++ third)
joined first second third one two all e f g =
    g ∙ (ap (λ ws. ws ++ third) (f ∙ ap (λ ws. ws ++ second) e) ∙ append_assoc first second third)
