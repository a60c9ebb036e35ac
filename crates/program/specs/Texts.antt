-- The texts that `asm` makes of a source, and what is read of a tape whose text `dis` makes.
use Rattle.std.specs.Prelude.{⊤, ◌≡◌, ◌⊎◌, ℕ, Bool, true, false, List, [], Option, Some, None, Result, Ok, Err}
use Rattle.std.specs.Io.KnownBytes.{Consumes, IsAtEnd}
use Rattle.engine.specs.TapeReads.{IsReadWhole}
use Rattle.model.specs.Listing.{IsListing}
use Rattle.model.specs.State.{Map}
use Rattle.model.specs.TapeFault.{out_of_memory}
use Rattle.model.specs.TapePieces.{IsRefusedInPieces}
use Rattle.papertape.specs.Streaming.{EndsWithPiece, GoesOn}
use Rattle.papertape.specs.declared.stream.TapeReadFault.{TapeReadFault}
use Rattle.papertape.specs.declared.stream.TapeReadFault.TheVariants.{Read, Tape}

-- There is a listing if one is asked for, and it is that of the source; otherwise there is none.
abbrev pub IsAsked : Map → List ℕ → Bool → Option (List ℕ) → Type 0
IsAsked map source true (Some text) = IsListing map source text
IsAsked map source true None = ⊥
IsAsked map source false (Some text) = ⊥
IsAsked map source false None = ⊤

-- What the bytes consumed of the tape say of the answer. A text comes after all of the tape was
-- read. Memory ran out after that, or before any of it was read. A fault of the tape comes with the
-- piece that shows it, or at the end. After a failed read the bytes consumed show no fault.
abbrev pub ShowsText : {X : Type 0} → List ℕ → Type 0 → Result X TapeReadFault → Type 0
ShowsText told AtEnd (Ok text) = IsReadWhole told AtEnd
ShowsText told AtEnd (Err (Tape fault))
    = ((fault ≡ out_of_memory) × (IsReadWhole told AtEnd ⊎ (told ≡ [])))
    ⊎ (EndsWithPiece told fault ⊎ (AtEnd × IsRefusedInPieces told fault))
ShowsText told AtEnd (Err Read) = GoesOn told

-- What was consumed of the tape, by what is known of it before and after, and by the answer.
abbrev pub ReadsText : {X : Type 0} → Option (List ℕ) → Option (List ℕ) → Result X TapeReadFault
    → Type 0
ReadsText before now answer = (told : List ℕ) × Consumes before now told
    × ShowsText told (IsAtEnd now) answer
