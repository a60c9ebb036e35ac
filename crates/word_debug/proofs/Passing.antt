-- What was served to a watch was served to its writer.
use Rattle.std.proofs.Common.{◌≡◌, ◌⊎◌, inl, inr, ℕ, Bool, List, Option, Some, None, Result, Ok, Err, IfSome, if◌then◌else◌, ap, ◌∙◌}
use Rattle.std.specs.Prelude.{⊤}
use Rattle.std.specs.Io.KnownBytes.{Appends, IsAtEnd}
use Rattle.model.specs.Session.{Session}
use Rattle.model.specs.Transcript.{transcript, transcript_so_far}
use Rattle.model.specs.Writers.{AppendsFront}
use Rattle.memory_map.specs.declared.map_spec.MapSpec.{MapSpec}
use Rattle.engine.specs.Outcome.{Begins, Serves}
use Rattle.engine.specs.declared.fault.EngineFault.{EngineFault}
use Rattle.engine.specs.declared.fault.EngineFault.TheVariants as engine_fault
use Rattle.program.specs.Streams.{IsServed}
use Rattle.arguments.specs.declared.refusal.Refusal.{Refusal}
use Rattle.arguments.specs.declared.refusal.Refusal.TheVariants.{Words, Map, Source, Tape, Session as session_refusal, OutOfMemory, Read, Write, WriteFile}
use Rattle.word_debug.specs.Seen.{seen_in}
use Rattle.word_debug.specs.Told.{known_framed}
use Rattle.word_debug.specs.Strict.{strict_status}

-- What was written between two states of a watch went on to its writer, and was seen.
abbrev pub Passes : Option (List ℕ) → Option (List ℕ) → Option (List ℕ) → Option (List ℕ) → Bool → Type 0
Passes watched seen held now fault = (text : List ℕ) → Appends watched seen text → (fault ≡ (seen_in text).has_fault) × Appends held now text

pub passes_of : (watched seen held now : Option (List ℕ)) (fault : Bool) → watched ≡ Some (known_framed held)
    → ((before : Option (List ℕ)) (text : List ℕ) → Appends (Some (known_framed before)) seen text → (fault ≡ (seen_in text).has_fault)
    × Appends before now text)
    → Passes watched seen held now fault
passes_of watched seen held now fault first passed text wrote = passed held text (rw first at wrote)

pub strict_served : (s : Session) (input watched seen held now : Option (List ℕ)) (fault : Bool) (status : ℕ) → Passes watched seen held now fault
    → status ≡ (if fault then 5 else 0) → IfSome input (λ given. Appends watched seen (transcript s given).written)
    → IfSome input (λ given. Appends held now (transcript s given).written × (status ≡ strict_status (transcript s given).written))
strict_served s None watched seen held now fault status passes is wrote = tt
strict_served s (Some given) watched seen held now fault status passes is wrote =
    let went = passes (transcript s given).written wrote in
    (went.1, is ∙ ap (λ b. if b then 5 else 0) went.0)

module _ (watched seen held now : Option (List ℕ)) (fault : Bool) (passes : Passes watched seen held now fault) where
  front_passes : (text : List ℕ) → AppendsFront watched seen text → AppendsFront held now text
  front_passes text f = (f.0, f.1, f.2, (passes f.0 f.3).1)

  either_passes : (End : Type 0) (some all : List ℕ) → AppendsFront watched seen some ⊎ (End × AppendsFront watched seen all)
      → AppendsFront held now some ⊎ (End × AppendsFront held now all)
  either_passes End some all (inl f) = inl (front_passes some f)
  either_passes End some all (inr p) = inr (p.0, front_passes all p.1)

  begins_pass : (s : Session) (input left : Option (List ℕ)) → Begins s input left watched seen → Begins s input left held now
  begins_pass s input left b = (b.0, b.1, either_passes (IsAtEnd left) (transcript_so_far s b.0).written (transcript s b.0).written b.2)

  whole_passes : (s : Session) (input : Option (List ℕ)) → IfSome input (λ bytes. Appends watched seen (transcript s bytes).written)
      → IfSome input (λ bytes. Appends held now (transcript s bytes).written)
  whole_passes s None wrote = tt
  whole_passes s (Some given) wrote = (passes (transcript s given).written wrote).1

  serves_pass : (s : Session) (input left : Option (List ℕ)) (ended : Result ⊤ EngineFault) → Serves s input left watched seen ended
      → Serves s input left held now ended
  serves_pass s input left (Ok done) h = whole_passes s input h
  serves_pass s input left (Err engine_fault.Read) h = (h.0, h.1, h.2, (passes (transcript_so_far s h.0).written h.3).1)
  serves_pass s input left (Err engine_fault.Write) h = begins_pass s input left h
  serves_pass s input left (Err engine_fault.OutOfMemory) h = begins_pass s input left h
  serves_pass s input left (Err (engine_fault.Source fault)) h = tt
  serves_pass s input left (Err (engine_fault.Tape fault)) h = tt
  serves_pass s input left (Err (engine_fault.Session fault)) h = tt

  module _ (map : MapSpec) (history : ℕ) (input left : Option (List ℕ)) (Alone Left : Type 0) (alone : Alone → Left) where
    pub served_passes : (outcome : Result ⊤ Refusal) → IsServed map history input left watched seen outcome Alone
        → IsServed map history input left held now outcome Left
    served_passes (Ok done) h = (h.0, serves_pass _ input left (Ok done) h.1)
    served_passes (Err (Read why)) (inl a) = inl (alone a)
    served_passes (Err (Read why)) (inr h) = inr (h.0, serves_pass _ input left (Err engine_fault.Read) h.1)
    served_passes (Err Write) h = (h.0, serves_pass _ input left (Err engine_fault.Write) h.1)
    served_passes (Err OutOfMemory) (inl a) = inl (alone a)
    served_passes (Err OutOfMemory) (inr h) = inr (h.0, serves_pass _ input left (Err engine_fault.OutOfMemory) h.1)
    served_passes (Err Words) h = alone h
    served_passes (Err (WriteFile why)) h = alone h
    served_passes (Err (Map fault)) h = alone h
    served_passes (Err (Source fault)) h = alone h
    served_passes (Err (Tape fault)) h = alone h
    served_passes (Err (session_refusal fault)) h = alone h
