-- Words that ask for something with a file of names, and yet are refused: memory ran out.
use Rattle.std.proofs.Common.{◌≡◌, ◌≤◌, ℕ, List, Option, Some, None, arith, subst}
use Rattle.arguments.specs.Asked.{FileAsked}
use Rattle.arguments.specs.FaultLines.{IsToldOfWords}
use Rattle.arguments.specs.Words.{IsStatusOf}
use Rattle.arguments.specs.declared.fault.WordsFault.{WordsFault}
use Rattle.arguments.specs.declared.fault.WordsFault.TheVariants as words_fault
use Rattle.loading.proofs.Unloaded.{unloaded_by_memory}
use Rattle.loading.specs.Named.{IsUnnamed, status_of_named}
use Rattle.loading.specs.Told.{Heard, IsUnloaded}
use Rattle.arguments.specs.Statuses.{status_of, status_of_load}
use Rattle.arguments.specs.declared.load_fault.LoadFault.{LoadFault}
use Rattle.arguments.specs.declared.load_fault.LoadFault.TheVariants as load_fault
use Rattle.arguments.specs.declared.refusal.Refusal.{Refusal}
use Rattle.arguments.specs.declared.refusal.Refusal.TheVariants as refusal
use Rattle.loading.specs.declared.named.NamedFault.{NamedFault}
use Rattle.loading.specs.declared.named.NamedFault.TheVariants.{HasSource, OfFile, OfNames}

unnamed : (file : FileAsked) (symbols : Option (List ℕ)) (heard : Heard) (status : ℕ) (Alone : Type 0) → IsUnloaded file heard status Alone
    → IsUnnamed file symbols heard status Alone
unnamed file None heard status Alone un = (OfFile un.0, un.1, un.2, un.3, un.4)
unnamed file (Some path) heard status Alone un = (OfFile un.0, un.1, un.2, un.3, un.4)

pub unnamed_by_memory : (file : FileAsked) (symbols : Option (List ℕ)) (heard : Heard) (fault : WordsFault) (status : ℕ) (Unread Unwritten : Type 0)
    → fault ≡ words_fault.OutOfMemory
    → IsStatusOf fault status → IsToldOfWords fault status heard.held heard.now → Unread → (1 ≤ status → status ≤ 3 → Unwritten)
    → IsUnnamed file symbols heard status (Unread × Unwritten)
unnamed_by_memory file symbols heard fault status Unread Unwritten memory is told unread unwritten =
    unnamed file symbols heard status (Unread × Unwritten) (unloaded_by_memory file heard fault status Unread Unwritten memory is told unread unwritten)

-- ---- each has a status

pub some_refusal : (r : Refusal) → 1 ≤ status_of r
some_refusal refusal.Words = omega arith
some_refusal (refusal.Map fault) = omega arith
some_refusal (refusal.Source fault) = omega arith
some_refusal (refusal.Tape fault) = omega arith
some_refusal (refusal.Session fault) = omega arith
some_refusal refusal.OutOfMemory = omega arith
some_refusal (refusal.Read why) = omega arith
some_refusal refusal.Write = omega arith
some_refusal (refusal.WriteFile why) = omega arith

pub some_load : (f : LoadFault) → 1 ≤ status_of_load f
some_load load_fault.LooksLikeTape = omega arith
some_load load_fault.LooksLikeHex = omega arith
some_load load_fault.LooksLikeSRecords = omega arith
some_load load_fault.LooksLikeRaw = omega arith
some_load load_fault.LooksLikeCapture = omega arith
some_load (load_fault.NoImage place what number note) = omega arith
some_load (load_fault.Faults fault text) = omega arith
some_load (load_fault.AtPort first last free) = omega arith
some_load (load_fault.Refused why) = some_refusal why

pub some_named : (f : NamedFault) → 1 ≤ status_of_named f
some_named (OfFile fault) = some_load fault
some_named (OfNames why) = some_refusal why
some_named HasSource = omega arith

pub never_zero : (f : NamedFault) (status : ℕ) → status ≡ status_of_named f → status ≡ 0 → ⊥
never_zero f status is zero = omega (arith, is, zero, some_named f)
