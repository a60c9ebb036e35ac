-- What `debug` with `--strict` does beside a plain `debug`. Source: mos65.
use Rattle.std.specs.Prelude.{◌≡◌, ◌≤◌, ◌⊎◌, ⊤, ℕ, Bool, true, false, List, [], ◌∷◌, Option, Some, None, IfSome, bytes_eq, codes, if◌then◌else◌, Result, MatchResult}
use Rattle.std.specs.Io.KnownBytes.{Appends}
use Rattle.arguments.specs.FaultLines.{IsTold}
use Rattle.arguments.specs.Statuses.{status_of}
use Rattle.arguments.specs.Words.{Refuses}
use Rattle.arguments.specs.declared.refusal.Refusal.{Refusal}
use Rattle.program.specs.Asked.{DebugAsked, words_in, debug}
use Rattle.program.specs.CommandLine.{mos65}
use Rattle.program.specs.Refused.{IsTaken}
use Rattle.clap.specs.Words.{Text}
use Rattle.model.specs.Event.{start}
use Rattle.model.specs.Session.{Session, new_session}
use Rattle.model.specs.Transcript.{transcript}
use Rattle.program.specs.Named.{IsToldOfSession}
use Rattle.program.specs.Runs.{Streams, TellsMap, map_asked}
use Rattle.program.specs.Streams.{IsServed}
use Rattle.word_debug.specs.Seen.{seen_in}

-- `--strict` stands before `--`, after which no word is an option.
abbrev pub is_strict : List Text → Bool
is_strict [] = false
is_strict (word ∷ words) = if bytes_eq word (codes "--") then false
    else if bytes_eq word (codes "--strict") then true else is_strict words

-- The words without `--strict` before `--`.
abbrev pub without_strict : List Text → List Text
without_strict [] = []
without_strict (word ∷ words) = if bytes_eq word (codes "--") then word ∷ words
    else if bytes_eq word (codes "--strict") then without_strict words
    else word ∷ without_strict words

-- The words of the plain `debug` that is served.
abbrev pub plain_words : List Text → List Text
plain_words words = codes "debug" ∷ without_strict words

-- 5 if these replies tell of a fault, and otherwise 0.
abbrev pub strict_status : List ℕ → ℕ
strict_status replies = if (seen_in replies).has_fault then 5 else 0

-- A session has come to its end.
abbrev pub IsDone : ℕ → Type 0
IsDone status = (status ≡ 0) ⊎ (status ≡ 5)

-- The exit status says how it ended.
abbrev pub IsStrictStatus : Result ⊤ Refusal → ℕ → Type 0
IsStrictStatus outcome status
    = MatchResult outcome (λ _. IsDone status) (λ refusal. status ≡ status_of refusal)

-- The output has the transcript of the input from a session on, and the status says whether a reply
-- of it tells of a fault.
abbrev pub HasEnded : Session → Streams → ℕ → Type 0
HasEnded session streams status = IfSome streams.given (λ given.
    Appends streams.held streams.now (transcript session given).written
    × (status ≡ strict_status (transcript session given).written))

-- A session was served, to its end or to a failure that the status says, or both streams were left
-- alone.
pub record RunsStrict (d : DebugAsked) (streams : Streams) (status : ℕ) (Alone : Type 0)
    : Type 0 where
  pub tells : TellsMap d.rom d.port status
  pub serves : (outcome : Result ⊤ Refusal) × IsStrictStatus outcome status
      × IsServed (map_asked d) d.history streams.given streams.left streams.held streams.now
      outcome Alone
  pub ended : IsDone status → (image : List (Option ℕ))
      × HasEnded (new_session d.history (start (map_asked d) image)) streams status

-- What `debug` does with `--strict`, by the words of the plain `debug`. The input is left alone,
-- `Unread`, and so is the output, `Unwritten`.
pub record ServesStrict (plain : List Text) (streams : Streams) (status : ℕ)
    (Unread Unwritten : Type 0) : Type 0 where
  -- A source, a tape, words or a map that are rejected leave the input and the output unchanged.
  pub untouched : 1 ≤ status → status ≤ 2 → Unread × Unwritten
  -- Words that fit nothing, or one of whose values is wrong, are refused.
  pub refuses : Refuses mos65 plain (words_in plain ≡ None) status Unread Unwritten
  -- Words that are right do what they ask for.
  pub serves : (d : DebugAsked) → words_in plain ≡ Some (debug d) → IsTaken plain
      → RunsStrict d streams status (Unread × Unwritten)

-- The error stream got the fault line of words that are refused, or that of the session that they ask
-- for.
abbrev pub IsToldStrict : List Text → ℕ → Option (List ℕ) → Option (List ℕ) → Type 0
IsToldStrict plain status held now = IsTold status held now
    ⊎ ((d : DebugAsked) × (words_in plain ≡ Some (debug d)) × IsToldOfSession d.file status held now)

-- The fault line of the session that right words ask for.
abbrev pub NamesFile : List Text → ℕ → Option (List ℕ) → Option (List ℕ) → Type 0
NamesFile plain status held now = (d : DebugAsked) → words_in plain ≡ Some (debug d) → IsTaken plain
    → 1 ≤ status → status ≤ 4 → IsToldOfSession d.file status held now
