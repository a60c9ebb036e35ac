-- What the error stream got.
use Rattle.std.proofs.Common.{◌≤◌, ℕ, List, Option, ◌⊎◌, inl, inr, arith, subst}
use Rattle.clap.specs.Words.{IsAmong, Text, kind_of}
use Rattle.arguments.specs.FaultLines.{IsTold, IsToldOfWords}
use Rattle.arguments.specs.Words.{IsStatusOf}
use Rattle.arguments.specs.declared.refusal.Refusal.TheVariants as refusal
use Rattle.program.specs.Refused.{IsRightRefusal, IsTaken}
use Rattle.arguments.specs.declared.fault.WordsFault.{WordsFault}
use Rattle.arguments.specs.declared.fault.WordsFault.TheVariants.{Help, Usage, Value, Wrong, OutOfMemory}

-- Rejected words have a fault line, unless they do not fit the command line and the status is 2.
pub told_of_words : (fault : WordsFault) (words : List Text) (status : ℕ) (held now : Option (List ℕ)) → IsRightRefusal words fault → IsStatusOf fault status
    → IsToldOfWords fault status held now → 1 ≤ status → IsTaken words ⊎ (3 ≤ status) → IsTold status held now
told_of_words (Help text) words status held now right is told some which = elim is [
  | inl none ↦ absurd (omega (arith, none, some))
  | inr four ↦ (refusal.Write, four, told some)
]
told_of_words (Usage text) words status held now right is told some (inl taken) = absurd (subst (λ faults. IsAmong (kind_of text) faults) taken right.1)
told_of_words (Usage text) words status held now right is told some (inr three) = absurd (omega (arith, is, three))
told_of_words (Wrong which) words status held now right is told some way = absurd right
told_of_words Value words status held now right is told some which = (refusal.Words, is, told)
told_of_words OutOfMemory words status held now right is told some which = (refusal.OutOfMemory, is, told)
