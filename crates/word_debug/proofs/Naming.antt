-- What is told where memory runs out before a session begins.
use Rattle.std.proofs.Common.{◌≡◌, ℕ, List, Option, refl, subst, sym}
use Rattle.arguments.specs.FaultLines.{IsToldOfWords, fault_line, file_line}
use Rattle.arguments.specs.Words.{IsStatusOf}
use Rattle.arguments.specs.declared.fault.WordsFault.{WordsFault}
use Rattle.arguments.specs.declared.fault.WordsFault.TheVariants.{OutOfMemory as NoMemory}
use Rattle.arguments.specs.declared.refusal.Refusal.TheVariants.{OutOfMemory}
use Rattle.model.specs.Writers.{AppendsFront}
use Rattle.program.specs.Named.{IsToldOfSession, session_line}

memory_line : (file : List ℕ) → session_line file OutOfMemory ≡ fault_line OutOfMemory
unfolding file_line
memory_line file = refl

pub memory_told : (file : List ℕ) (status : ℕ) (held now : Option (List ℕ)) → status ≡ 3 → AppendsFront held now (fault_line OutOfMemory)
    → IsToldOfSession file status held now
memory_told file status held now is told = (OutOfMemory, is, subst (AppendsFront held now) (sym (memory_line file)) told)

pub memory_named : (file : List ℕ) (fault : WordsFault) (status : ℕ) (held now : Option (List ℕ)) → fault ≡ NoMemory → IsStatusOf fault status
    → IsToldOfWords fault status held now → IsToldOfSession file status held now
memory_named file fault status held now memory is told =
    memory_told file status held now (subst (λ f. IsStatusOf f status) memory is) (subst (λ f. IsToldOfWords f status held now) memory told)
