-- A tape that is read from a reader, a piece at a time. Source: mos65.
use Rattle.std.specs.Prelude.{◌≡◌, ◌≤◌, ⊤, ◌⊎◌, ℕ, List, [], ◌++◌, length, Option, None, Some, Result, Ok, Err}
use Rattle.std.specs.Io.KnownBytes.{Consumes, IsAtEnd}
use Rattle.model.specs.TapeFault.{out_of_memory}
use Rattle.model.specs.TapePieces.{IsReadInPieces, IsRefusedInPieces, Tells, longest}
use Rattle.model.specs.declared.tape.TapeFault.{TapeFault}
use Rattle.papertape.specs.declared.stream.TapeReadFault.{TapeReadFault}
use Rattle.papertape.specs.declared.stream.TapeReadFault.TheVariants.{Tape, Read}

-- The text of a reader: its bytes if they are known; otherwise no clause can say which.
abbrev pub IsTextOf : Option (List ℕ) → List ℕ → Type 0
IsTextOf None text = ⊤
IsTextOf (Some bytes) text = bytes ≡ text

-- The image of the tape that a reader reads.
abbrev pub IsImageOf : Option (List ℕ) → List (Option ℕ) → Type 0
IsImageOf known image = (text : List ℕ) × IsTextOf known text × IsReadInPieces text image

-- The fault of the tape that a reader reads.
abbrev pub IsRefusalOf : Option (List ℕ) → TapeFault → Type 0
IsRefusalOf known fault = (text : List ℕ) × IsTextOf known text × IsRefusedInPieces text fault

-- Why no image was read: memory ran out, or the tape has this fault. No clause can say whether a
-- read fails.
abbrev pub EndsReading : Option (List ℕ) → TapeReadFault → Type 0
EndsReading known (Tape fault) = (fault ≡ out_of_memory) ⊎ IsRefusalOf known fault
EndsReading known Read = ⊤

-- A text that begins so is rejected with this fault, however it goes on.
abbrev pub IsRefusedAlready : List ℕ → TapeFault → Type 0
IsRefusedAlready front fault = (more : List ℕ) → IsRefusedInPieces (front ++ more) fault

-- A text that begins so may still be right: it is not too long, and shows no fault.
abbrev pub GoesOn : List ℕ → Type 0
GoesOn front = (length front ≤ longest) × ((fault : TapeFault) → Tells front fault → ⊥)

-- The longest piece in which a tape is read. Source: mos65.
abbrev pub longest_piece : ℕ
longest_piece = 4096

-- The bytes consumed show the fault, and nothing was read after the piece that shows it: the bytes
-- before that piece show none.
pub record EndsWithPiece (told : List ℕ) (fault : TapeFault) : Type 0 where
  pub front : List ℕ
  pub piece : List ℕ
  pub parts : told ≡ front ++ piece
  pub short : length piece ≤ longest_piece
  pub right : GoesOn front
  pub refused : IsRefusedAlready told fault

-- What the consumed bytes say of the result. An image, and a fault that only the end shows, come at
-- the reader's end; any other fault comes with the piece that shows it. After a failed read the
-- bytes consumed show no fault. If memory ran out, none was consumed.
abbrev pub Shows : List ℕ → Type 0 → Result (List (Option ℕ)) TapeReadFault → Type 0
Shows told AtEnd (Ok image) = AtEnd × IsReadInPieces told image
Shows told AtEnd (Err (Tape fault)) = ((fault ≡ out_of_memory) × (told ≡ []))
    ⊎ (EndsWithPiece told fault ⊎ (AtEnd × IsRefusedInPieces told fault))
Shows told AtEnd (Err Read) = GoesOn told

-- What was consumed of a reader, by what is known of it before and after, and by the result.
abbrev pub Reads : Option (List ℕ) → Option (List ℕ) → Result (List (Option ℕ)) TapeReadFault
    → Type 0
Reads before now answer = (told : List ℕ) × Consumes before now told
    × Shows told (IsAtEnd now) answer
