-- What `debug` and `dis` do to their streams. Source: mos65.
use Rattle.std.specs.Prelude.{⊤, ◌≡◌, ◌⊎◌, ℕ, List, Option, Result, Ok, Err, MatchResult}
use Rattle.std.specs.Io.KnownBytes.{Appends}
use Rattle.memory_map.specs.declared.map_spec.MapSpec.{MapSpec}
use Rattle.engine.specs.Outcome.{Serves}
use Rattle.engine.specs.declared.fault.EngineFault.{EngineFault}
use Rattle.engine.specs.declared.fault.EngineFault.TheVariants as engine_fault
use Rattle.model.specs.Disassembly.{rows_in}
use Rattle.model.specs.Event.{start}
use Rattle.model.specs.Session.{new_session}
use Rattle.model.specs.State.{memory_of}
use Rattle.model.specs.Writers.{AppendsFront}
use Rattle.model.specs.declared.instruction.Profile.{Profile}
use Rattle.arguments.specs.Statuses.{status_of}
use Rattle.arguments.specs.declared.refusal.Refusal.{Refusal}
use Rattle.arguments.specs.declared.refusal.Refusal.TheVariants.{OutOfMemory, Read, Write}

-- A session that starts with some image was served, and its serving ended so. No clause can say
-- which image a file stands for.
abbrev pub FromImage : MapSpec → ℕ → Option (List ℕ) → Option (List ℕ) → Option (List ℕ)
    → Option (List ℕ) → Result ⊤ EngineFault → Type 0
FromImage map history input left held now ended = (image : List (Option ℕ))
    × Serves (new_session history (start map image)) input left held now ended

-- What `debug` did to its streams, by how it ended: a session was served to its end or to a
-- failure, or none began and the streams were left alone, `Alone`. `Read` may be one of the file,
-- and memory may run out before and after.
abbrev pub IsServed : MapSpec → ℕ → Option (List ℕ) → Option (List ℕ) → Option (List ℕ)
    → Option (List ℕ) → Result ⊤ Refusal → Type 0 → Type 0
IsServed map history input left held now (Ok done) Alone
    = FromImage map history input left held now (Ok done)
IsServed map history input left held now (Err (Read why)) Alone = Alone
    ⊎ FromImage map history input left held now (Err engine_fault.Read)
IsServed map history input left held now (Err Write) Alone
    = FromImage map history input left held now (Err engine_fault.Write)
IsServed map history input left held now (Err OutOfMemory) Alone = Alone
    ⊎ FromImage map history input left held now (Err engine_fault.OutOfMemory)
IsServed map history input left held now (Err refusal) Alone = Alone

-- What `dis` did to its output, by how it ended: the rows of some image in the profile were
-- written, or a beginning of them, or nothing was.
abbrev pub IsListed : Profile → ℕ → ℕ → Option (List ℕ) → Option (List ℕ) → Result ⊤ Refusal
    → Type 0 → Type 0
IsListed profile first last held now (Ok done) Alone = (image : List (Option ℕ))
    × Appends held now (rows_in profile (memory_of image) last first 65536)
IsListed profile first last held now (Err Write) Alone = (image : List (Option ℕ))
    × AppendsFront held now (rows_in profile (memory_of image) last first 65536)
IsListed profile first last held now (Err refusal) Alone = Alone

-- The exit status says how it ended.
abbrev pub IsStatus : Result ⊤ Refusal → ℕ → Type 0
IsStatus outcome status
    = MatchResult outcome (λ _. status ≡ 0) (λ refusal. status ≡ status_of refusal)
