-- What was read and written when the engine reads its tape itself. Source: mos65.
use Rattle.std.specs.Prelude.{◌≡◌, ◌⊎◌, ℕ, List, [], Option, Result, Ok, Err}
use Rattle.std.specs.Io.KnownBytes.{Consumes, IsAtEnd}
use Rattle.model.specs.TapePieces.{IsReadInPieces, IsRefusedInPieces}
use Rattle.papertape.specs.Streaming.{EndsWithPiece, GoesOn}
use Rattle.engine.specs.declared.fault.EngineFault.{EngineFault}
use Rattle.engine.specs.declared.fault.EngineFault.TheVariants as engine_fault

-- Whether a session began, by the engine's result, as in `Reaches`; but a read that failed may be
-- one of the tape, before a session began.
abbrev pub ReachesFrom : {X : Type 0} → Result X EngineFault → Type 0 → Type 0 → Type 0
ReachesFrom (Ok done) Stood Alone = Stood
ReachesFrom (Err engine_fault.Read) Stood Alone = Stood ⊎ Alone
ReachesFrom (Err engine_fault.Write) Stood Alone = Stood
ReachesFrom (Err engine_fault.OutOfMemory) Stood Alone = Stood ⊎ Alone
ReachesFrom (Err fault) Stood Alone = Alone

-- All of the tape was consumed, and it has an image.
abbrev pub IsReadWhole : List ℕ → Type 0 → Type 0
IsReadWhole told AtEnd = AtEnd × ((image : List (Option ℕ)) × IsReadInPieces told image)

-- What the bytes consumed of the tape say of the engine's result. A fault of the tape comes with
-- the piece that shows it, or at the end. A read that failed was one of command lines, or one of
-- the tape of which the bytes so far show no fault. Memory ran out after the tape was read, or
-- before any of it was. Every other result comes after the tape was read.
abbrev pub ShowsTape : {X : Type 0} → List ℕ → Type 0 → Result X EngineFault → Type 0
ShowsTape told AtEnd (Err (engine_fault.Source fault)) = ⊥
ShowsTape told AtEnd (Err (engine_fault.Tape fault)) = EndsWithPiece told fault
    ⊎ (AtEnd × IsRefusedInPieces told fault)
ShowsTape told AtEnd (Err engine_fault.Read) = IsReadWhole told AtEnd ⊎ GoesOn told
ShowsTape told AtEnd (Err engine_fault.OutOfMemory) = IsReadWhole told AtEnd ⊎ (told ≡ [])
ShowsTape told AtEnd answer = IsReadWhole told AtEnd

-- What was consumed of the tape, by what is known of it before and after, and by the engine's
-- result.
abbrev pub ReadsTape : {X : Type 0} → Option (List ℕ) → Option (List ℕ) → Result X EngineFault
    → Type 0
ReadsTape before now answer = (told : List ℕ) × Consumes before now told
    × ShowsTape told (IsAtEnd now) answer
