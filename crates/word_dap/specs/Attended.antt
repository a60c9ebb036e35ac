-- Messages that are served one after another, and what is written where a fault comes. Source: Debug
-- Adapter Protocol 1.65, "Base protocol"; mos65.
use Rattle.std.specs.Prelude.{ℕ, ◌≡◌, Bool, true, false, List, Option, Some, None}
use Rattle.std.specs.Io.KnownBytes.{Appends}
use Rattle.clap.specs.Words.{Text}
use Rattle.word_dap.specs.Served.{Answers}
use Rattle.word_dap.specs.declared.adapter.Adapter.{Adapter}
use Rattle.json_messages.specs.Sessions.{IsCutShort, IsEndedBy}
use Rattle.json_messages.specs.declared.fault.StreamFault.{StreamFault}
use Rattle.json_messages.specs.declared.fault.StreamFault.TheVariants.{OutOfMemory}

-- The exit status that a message asks for, if it asks for the end.
abbrev pub status_of : Bool → Option ℕ
status_of true = Some 0
status_of false = None

-- A body is served. The state is an adapter, and how many messages were sent.
unfoldable pub Turns : Option Text → List ℕ → Adapter × ℕ → Adapter × ℕ → Option ℕ → List ℕ → Type 0
Turns seen body old new status written = (end : Bool)
    × Answers seen body old.0 old.1 new.0 new.1 end written × (status ≡ status_of end)

-- A session: an adapter of which nothing was asked serves the messages from the first one on. The
-- last of them asked for the end, and none before it.
abbrev pub IsAttended : Option Text → Option (List ℕ) → Option (List ℕ) → List ℕ → Type 0
IsAttended seen given left written = (first : Adapter) × (first.counting ≡ None)
    × (first.client ≡ None) × IsEndedBy (Turns seen) given left (first, 0) 0 written

-- ---- a session that is cut short

-- The exit status.
abbrev pub cut_status : StreamFault → ℕ
cut_status OutOfMemory = 3
cut_status fault = 4

-- From the first message on all were served but the last, and none asked for the end; then a fault
-- came.
abbrev pub IsCut : Option Text → StreamFault → Option (List ℕ) → Option (List ℕ) → List ℕ → Type 0
IsCut seen fault given left written = (first : Adapter) × (first.counting ≡ None)
    × (first.client ≡ None) × IsCutShort (Turns seen) given left (first, 0) fault written

-- So much is appended to what was written before.
abbrev pub Attends : Option Text → Option (List ℕ) → Option (List ℕ) → Option (List ℕ)
    → Option (List ℕ) → Type 0
Attends seen given left before after = (written : List ℕ)
    × IsAttended seen given left written × Appends before after written

abbrev pub CutsOff : Option Text → ℕ → Option (List ℕ) → Option (List ℕ) → Option (List ℕ)
    → Option (List ℕ) → Type 0
CutsOff seen status given left before after = (fault : StreamFault)
    × (status ≡ cut_status fault) × (written : List ℕ)
    × IsCut seen fault given left written × Appends before after written
