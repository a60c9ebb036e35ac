-- Words that fit and are refused leave the output alone.
use Rattle.std.proofs.Common.{◌≡◌, ◌≤◌, ℕ, List, subst, arith}
use Rattle.clap.specs.Words.{App, IsAmong, Text, kind_of}
use Rattle.clap.specs.declared.error.kind.ErrorKind.TheVariants as kind
use Rattle.arguments.specs.Words.{Fits, IsRefusalOf, IsStatusOf}
use Rattle.arguments.specs.declared.fault.WordsFault.{WordsFault}
use Rattle.arguments.specs.declared.fault.WordsFault.TheVariants.{Help, OutOfMemory, Usage, Value, Wrong}

pub fitting : (app : App) (words : List Text) (W : Type 0) (fault : WordsFault) (status : ℕ) → IsRefusalOf app words W fault → IsStatusOf fault status
    → Fits app words → (1 ≤ status) × (status ≤ 3)
fitting app words W (Help text) status is said fits = absurd (subst (IsAmong kind.DisplayHelp) fits is.1)
fitting app words W (Usage text) status is said fits = absurd (subst (IsAmong (kind_of text)) fits is.1)
fitting app words W Value status is said fits = (omega (arith, said), omega (arith, said))
fitting app words W (Wrong which) status is said fits = (omega (arith, said), omega (arith, said))
fitting app words W OutOfMemory status is said fits = (omega (arith, said), omega (arith, said))
