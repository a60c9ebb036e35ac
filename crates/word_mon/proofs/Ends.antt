-- Why no session begins.
use Rattle.std.proofs.Common.{◌≡◌, ◌⊎◌, ℕ, Bool, ◌++◌, inl, inr, refl, subst, List, Option, None, Some, Err, Bor, option_map, unwrap_or}
use Rattle.std.specs.Prelude.{⊤}
use Rattle.std.specs.Io.KnownBytes.{Appends}
use Rattle.arguments.specs.FaultLines.{file_line, image_line, load_text}
use Rattle.arguments.specs.Statuses.{status_of}
use Rattle.arguments.specs.Asked.{FileAsked}
use Rattle.arguments.specs.declared.load_fault.LoadFault.TheVariants.{Refused}
use Rattle.arguments.specs.declared.refusal.Refusal.{Refusal}
use Rattle.arguments.specs.declared.refusal.ReadFault.TheVariants.{Other}
use Rattle.arguments.specs.declared.refusal.Refusal.TheVariants.{OutOfMemory, Read, Write}
use Rattle.arguments.specs.OtherFiles.{Others}
use Rattle.loading.proofs.Machines.{memory_files, one_of}
use Rattle.loading.specs.Machine.{AreUnloaded}
use Rattle.loading.specs.Told.{Heard, Tells}
use Rattle.word_mon.specs.Attended.{AttendsInPart, IsAttendedSoFar}
use Rattle.word_mon.specs.Done.{Attends, EndsSession, IsUnnamed}
use Rattle.word_mon.specs.declared.terminal.Terminal.{Terminal}
use Rattle.word_mon.specs.Starts.{EndsNamed}

-- Memory ran out: the line names no file.
memory_unloads : (file : FileAsked) (others : Others) (heard : Heard) (path : List ℕ) (fault : Refusal) (status : ℕ) (Alone : Type 0) → fault ≡ OutOfMemory
    → status ≡ status_of fault → Tells heard (file_line path fault) → Alone → AreUnloaded file others heard status Alone
unfolding load_text image_line file_line
memory_unloads file others heard path fault status A memory is told alone = (
  file.file,
  Refused OutOfMemory,
  one_of others.second file,
  memory_files file others,
  subst (λ f. status ≡ status_of f) memory is,
  subst
      (λ f. Tells heard (file_line path f)) memory told,
  alone,
)

unnamed_ends : (symbols : Option (Bor (List ℕ))) (other : Bor (List ℕ)) (file : FileAsked) (heard : Heard) (fault : Refusal) (status : ℕ) (Alone : Type 0)
    → EndsNamed (option_map (λ s. s.now) symbols) file fault → status ≡ status_of fault → Tells heard (file_line (unwrap_or symbols other).now fault) → Alone
    → IsUnnamed (option_map (λ s. s.now) symbols) file heard status Alone
unnamed_ends None other file heard fault status A ends is told alone = absurd ends
unnamed_ends (Some path) other file heard fault status A ends is told alone = (fault, ends, is, told, alone)

-- What was told of the file of names if there is one, and otherwise of another file.
pub ends_named : (symbols : Option (Bor (List ℕ))) (other : Bor (List ℕ)) (file : FileAsked) (others : Others) (heard : Heard) (fault : Refusal)
    (status : ℕ) (Alone Undebugged Begun : Type 0)
    → (fault ≡ OutOfMemory) ⊎ EndsNamed (option_map (λ s. s.now) symbols) file fault → status ≡ status_of fault
    → Tells heard (file_line (unwrap_or symbols other).now fault) → Alone
    → AreUnloaded file others heard status Alone ⊎ ((IsUnnamed (option_map (λ s. s.now) symbols) file heard status Alone ⊎ Undebugged) ⊎ Begun)
ends_named symbols other file others heard fault status A U B (inl memory) is told alone =
    inl (memory_unloads file others heard (unwrap_or symbols other).now fault status A memory is told alone)
ends_named symbols other file others heard fault status A U B (inr ends) is told alone =
    inr (inl (inl (unnamed_ends symbols other file heard fault status A ends is told alone)))

-- How a session ended with a fault.
pub attends_err : (prompts : Bool) (shown : List ℕ) (first last : Terminal)
    (given left held now : Option (List ℕ)) (fault : Refusal) → EndsSession fault
    → (fault ≡ Read Other → (written : List ℕ)
    × IsAttendedSoFar prompts given left first last written
    × Appends held now (shown ++ written))
    → AttendsInPart prompts shown first given left held now
    → Attends {X = ⊤} prompts shown first given left held now (Err fault)
attends_err prompts shown first last given left held now OutOfMemory ends unread broken = broken
attends_err prompts shown first last given left held now Write ends unread broken = broken
attends_err prompts shown first last given left held now (Read Other) ends unread broken =
    let h = unread refl in (last, h.0, h.1, h.2)
attends_err prompts shown first last given left held now fault ends unread broken = absurd ends
