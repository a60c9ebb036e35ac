-- A session of a server: which messages of its input it serves, in which order, what it writes, and
-- with which status it ends.
-- Source: Language Server Protocol 3.17, "Base Protocol", "Exit Notification"; the end of the input
-- after `shutdown`, mos65.
use Rattle.std.specs.Prelude.{ℕ, ◌≡◌, ◌⊎◌, List, [], Option, None}
use Rattle.std.specs.Io.KnownBytes.{Appends, IsAtEnd}
use Rattle.word_lsp.specs.CommandLine.{LspAsked}
use Rattle.json_messages.specs.Bodies.{IsMessage}
use Rattle.word_lsp.specs.Messages.{Does}
use Rattle.word_lsp.specs.State.{State, start}
use Rattle.word_lsp.specs.Writing.{AreWritten}
use Rattle.word_lsp.specs.declared.phase.Phase.TheVariants.{ShutDown}
use Rattle.json_messages.specs.Sessions.{IsCutShort, IsEndedBy, IsServedSoFar}
use Rattle.json_messages.specs.declared.fault.StreamFault.{StreamFault}
use Rattle.json_messages.specs.declared.fault.StreamFault.TheVariants.{NoLength, LongHeader, Cut, Read, Write, OutOfMemory}
use Rattle.model.specs.State.{Map}
use Rattle.serde_json.specs.Data.{Data}

-- The map that sources are assembled for.
abbrev pub map_for : LspAsked → Map
map_for asked = record { profile = asked.profile; rom = None; port = asked.port }

-- What is done with a body, and what is written then.
unfoldable pub Answers : Map → List ℕ → State → State → Option ℕ → List ℕ → Type 0
Answers bus_map body old new end written = (message : Option Data) × IsMessage body message
    × (vs : List Data) × Does bus_map old message new vs end × AreWritten vs written

-- The input ended after `shutdown`, and all of its messages were served.
abbrev pub IsClosed : Map → Option (List ℕ) → Option (List ℕ) → ℕ → List ℕ → Type 0
IsClosed bus_map given left status written = (closed : State)
    × IsServedSoFar (Answers bus_map) given left [] start closed written
    × IsAtEnd left × (closed.phase ≡ ShutDown) × (status ≡ 0)

-- A session ends with a status, and so much is written.
abbrev pub Ends : Map → Option (List ℕ) → Option (List ℕ) → ℕ → List ℕ → Type 0
Ends bus_map given left status written
    = IsEndedBy (Answers bus_map) given left start status written
    ⊎ IsClosed bus_map given left status written

-- So much is appended to what was written before.
abbrev pub IsSession : Map → Option (List ℕ) → Option (List ℕ) → ℕ → Option (List ℕ)
    → Option (List ℕ) → Type 0
IsSession bus_map given left status before after = (written : List ℕ)
    × Ends bus_map given left status written × Appends before after written

-- ---- a session that a fault cuts short

-- The status then: 3 for memory, 4 for the streams and what they hold.
abbrev pub status_of : StreamFault → ℕ
status_of NoLength = 4
status_of LongHeader = 4
status_of Cut = 4
status_of Read = 4
status_of Write = 4
status_of OutOfMemory = 3

-- All that is written of the messages that were served is appended, and a beginning of what is
-- written of the next one.
abbrev pub IsCut : Map → Option (List ℕ) → Option (List ℕ) → StreamFault → Option (List ℕ)
    → Option (List ℕ) → Type 0
IsCut bus_map given left fault before after = (written : List ℕ)
    × IsCutShort (Answers bus_map) given left start fault written × Appends before after written

-- A session with its status: it came to its end, or a fault cut it short.
abbrev pub IsServed : Map → Option (List ℕ) → Option (List ℕ) → ℕ → Option (List ℕ)
    → Option (List ℕ) → Type 0
IsServed bus_map given left status before after
    = IsSession bus_map given left status before after ⊎ ((fault : StreamFault)
    × (status ≡ status_of fault) × IsCut bus_map given left fault before after)
