-- What was read and written when a session was to be served. Source: mos65.
use Rattle.std.specs.Prelude.{◌≢◌, ⊤, ◌⊎◌, ℕ, List, Option, Result, Ok, Err, IfSome}
use Rattle.std.specs.Io.KnownBytes.{Appends, Consumes, IsAtEnd}
use Rattle.std.specs.List.{All}
use Rattle.model.specs.Session.{Session}
use Rattle.model.specs.TextLines.{ended_lines_of}
use Rattle.model.specs.Commands.{command_of}
use Rattle.model.specs.declared.command.Command.TheVariants.{Quit}
use Rattle.model.specs.Transcript.{transcript, transcript_so_far}
use Rattle.model.specs.Writers.{AppendsFront}
use Rattle.engine.specs.declared.fault.EngineFault.{EngineFault}
use Rattle.engine.specs.declared.fault.EngineFault.TheVariants as engine_fault

-- None of the complete lines is `quit`.
abbrev pub NoneQuits : List ℕ → Type 0
NoneQuits told = All (λ line. command_of line ≢ Quit) (ended_lines_of told)

-- The bytes consumed are those that were read, and what was written is a beginning of the replies
-- to the complete lines; at the end of the input the last line counts too, complete or not.
abbrev pub Begins : Session → Option (List ℕ) → Option (List ℕ) → Option (List ℕ) → Option (List ℕ)
    → Type 0
Begins s input left held now = (told : List ℕ) × Consumes input left told
    × (AppendsFront held now (transcript_so_far s told).written
    ⊎ (IsAtEnd left × AppendsFront held now (transcript s told).written))

-- What was consumed of the reader, and what the writer holds, by how the serving of a session
-- ended. `Ok`: the transcript of the input was written. `Read`: the replies to the complete lines
-- read so far were written, and none of these lines is `quit`. `Write` and `OutOfMemory`: a
-- beginning of the transcript of what was read so far was written. Any other fault comes before a
-- session is served.
abbrev pub Serves : {X : Type 0} → Session → Option (List ℕ) → Option (List ℕ) → Option (List ℕ)
    → Option (List ℕ) → Result X EngineFault → Type 0
Serves s input left held now (Ok done)
    = IfSome input (λ bytes. Appends held now (transcript s bytes).written)
Serves s input left held now (Err engine_fault.Read) = (told : List ℕ) × Consumes input left told
    × NoneQuits told × Appends held now (transcript_so_far s told).written
Serves s input left held now (Err engine_fault.Write) = Begins s input left held now
Serves s input left held now (Err engine_fault.OutOfMemory) = Begins s input left held now
Serves s input left held now (Err fault) = ⊤

-- Whether a session began, by the engine's result: if it did, `Stood` holds; if not, `Alone`.
-- Memory can run out before and after.
abbrev pub Reaches : {X : Type 0} → Result X EngineFault → Type 0 → Type 0 → Type 0
Reaches (Ok done) Stood Alone = Stood
Reaches (Err engine_fault.Read) Stood Alone = Stood
Reaches (Err engine_fault.Write) Stood Alone = Stood
Reaches (Err engine_fault.OutOfMemory) Stood Alone = Stood ⊎ Alone
Reaches (Err fault) Stood Alone = Alone

-- The faults that end serving: a read or a write failed, or memory ran out.
abbrev pub EndsServing : EngineFault → Type 0
EndsServing engine_fault.Read = ⊤
EndsServing engine_fault.Write = ⊤
EndsServing engine_fault.OutOfMemory = ⊤
EndsServing fault = ⊥

-- The faults that end a reply: it could not be written, or memory ran out.
abbrev pub EndsReply : EngineFault → Type 0
EndsReply engine_fault.Write = ⊤
EndsReply engine_fault.OutOfMemory = ⊤
EndsReply fault = ⊥
