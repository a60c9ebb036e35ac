-- Words that ask for something, and yet are refused: memory ran out.
use Rattle.std.proofs.Common.{◌≡◌, ◌≤◌, ℕ, arith, subst}
use Rattle.arguments.specs.Asked.{FileAsked}
use Rattle.arguments.specs.FaultLines.{IsToldOfWords, file_line, image_line, load_text}
use Rattle.arguments.specs.Words.{IsStatusOf}
use Rattle.arguments.specs.declared.fault.WordsFault.{WordsFault}
use Rattle.arguments.specs.declared.fault.WordsFault.TheVariants as words_fault
use Rattle.arguments.specs.declared.load_fault.LoadFault.TheVariants.{Refused}
use Rattle.arguments.specs.declared.refusal.Refusal.TheVariants.{OutOfMemory}
use Rattle.loading.proofs.Ends.{memory_ends}
use Rattle.loading.specs.Told.{Heard, IsUnloaded}

pub unloaded_by_memory : (file : FileAsked) (heard : Heard) (fault : WordsFault) (status : ℕ) (Unread Unwritten : Type 0) → fault ≡ words_fault.OutOfMemory
    → IsStatusOf fault status → IsToldOfWords fault status heard.held heard.now → Unread → (1 ≤ status → status ≤ 3 → Unwritten)
    → IsUnloaded file heard status (Unread × Unwritten)
unfolding load_text image_line file_line
unloaded_by_memory file heard fault status Unread Unwritten memory is told unread unwritten =
    let three : status ≡ 3 = subst (λ f. IsStatusOf f status) memory is in
    let line = subst (λ f. IsToldOfWords f status heard.held heard.now) memory told in
    (Refused OutOfMemory, memory_ends file, three, line, (unread, unwritten (omega (arith, three)) (omega (arith, three))))
