-- A program that ended with 0 after a session wrote the session's transcript.
use Rattle.std.proofs.Common.{◌≡◌, ◌∙◌, ℕ, Bool, true, false, List, Option, Some, IfErr, IfSome, Result, Ok, Err, MatchResult, inl, refl, sym, subst, arith}
use Rattle.std.specs.Prelude.{⊤}
use Rattle.std.specs.Io.KnownBytes.{Appends}
use Rattle.model.specs.Event.{start}
use Rattle.model.specs.Session.{new_session}
use Rattle.model.specs.Transcript.{transcript}
use Rattle.arguments.specs.Statuses.{status_of}
use Rattle.model.specs.State.{Map as MapView, is_map}
use Rattle.model.specs.declared.bus_fault.BusFault.TheVariants.{BadMap}
use Rattle.program.specs.Refusals.{EndsDebug}
use Rattle.program.specs.Runs.{RunsDebug, Streams, map_asked}
use Rattle.program.specs.Streams.{IsServed, IsStatus}
use Rattle.arguments.specs.declared.refusal.Refusal.{Refusal}
use Rattle.arguments.specs.declared.refusal.Refusal.TheVariants.{Words, Map, Source, Tape, Session, OutOfMemory, Read, Write, WriteFile}
use Rattle.program.specs.Asked.{Asked, DebugAsked, debug}

-- Words ask for one thing.
pub one_debug : (a : Option Asked) (x y : DebugAsked) → a ≡ Some (debug x) → a ≡ Some (debug y) → x ≡ y
one_debug a x y p q = cc

not_zero : (refusal : Refusal) → status_of refusal ≡ 0 → ⊥
not_zero Words e = omega arith
not_zero (Map fault) e = omega arith
not_zero (Source fault) e = omega arith
not_zero (Tape fault) e = omega arith
not_zero (Session fault) e = omega arith
not_zero OutOfMemory e = omega arith
not_zero (Read why) e = omega arith
not_zero Write e = omega arith
not_zero (WriteFile why) e = omega arith

-- The transcript of the input was written, from some image on the map.
abbrev pub IsTranscript : Option (List ℕ) → Option (List ℕ) → Option (List ℕ) → DebugAsked → Type 0
IsTranscript input held now d = (image : List (Option ℕ)) × IfSome input
    (λ given. Appends held now (transcript (new_session d.history (start (record { profile = d.profile; rom = d.rom; port = d.port }) image)) given).written)

pub ended_served : (v d : DebugAsked) (input left held now : Option (List ℕ)) (Alone : Type 0) (outcome : Result ⊤ Refusal) (status : ℕ) → v ≡ d
    → IsServed (record { profile = v.profile; rom = v.rom; port = v.port }) v.history input left held now outcome Alone
    → MatchResult outcome (λ _. status ≡ 0) (λ refusal. status ≡ status_of refusal) → status ≡ 0 → IsTranscript input held now d
ended_served v d input left held now Alone (Ok done) status same served is zero = subst (IsTranscript input held now) same served
ended_served v d input left held now Alone (Err refusal) status same served is zero = absurd (not_zero refusal (sym is ∙ zero))

-- A map that is none has the status 2.
bad_status : (outcome : Result ⊤ Refusal) (status : ℕ) → outcome ≡ Err (Map BadMap) → IsStatus outcome status → status ≡ 2
bad_status outcome status bad is = subst (λ (o : Result ⊤ Refusal). IsStatus o status) bad is

-- Nothing else has it once the words are right.
not_two : (is_tape : Bool) (map : MapView) (refusal : Refusal) (status : ℕ) → EndsDebug is_tape map refusal → status ≡ status_of refusal
    → is_map map.rom map.port ≡ true → status ≡ 2 → ⊥
not_two is_tape map Words status ends is makes two = absurd ends
not_two is_tape map (Map fault) status ends is makes two = let no : true ≡ false = sym makes ∙ ends.1 in absurd cc
not_two is_tape map (Source fault) status ends is makes two = omega (arith, is, two)
not_two is_tape map (Tape fault) status ends is makes two = omega (arith, is, two)
not_two is_tape map (Session fault) status ends is makes two = omega (arith, is, two)
not_two is_tape map OutOfMemory status ends is makes two = omega (arith, is, two)
not_two is_tape map (Read why) status ends is makes two = omega (arith, is, two)
not_two is_tape map Write status ends is makes two = omega (arith, is, two)
not_two is_tape map (WriteFile why) status ends is makes two = absurd ends

right_status : (is_tape : Bool) (map : MapView) (outcome : Result ⊤ Refusal) (status : ℕ) → IfErr outcome (EndsDebug is_tape map)
    → IsStatus outcome status → is_map map.rom map.port ≡ true → status ≡ 2 → ⊥
right_status is_tape map (Ok done) status ends is makes two = omega (arith, is, two)
right_status is_tape map (Err refusal) status ends is makes two = not_two is_tape map refusal status ends is makes two

-- What `debug` did for words that ask for this.
pub runs_debug : (v d : DebugAsked) (streams : Streams) (Alone : Type 0) (outcome : Result ⊤ Refusal) (status : ℕ) → v ≡ d
    → (is_map v.rom v.port ≡ false → outcome ≡ Err (Map BadMap)) → IfErr outcome (EndsDebug v.is_tape (map_asked v))
    → IsServed (map_asked v) v.history streams.given streams.left streams.held streams.now outcome Alone → IsStatus outcome status
    → RunsDebug d streams status Alone
runs_debug v d streams Alone outcome status same bad ends served is = subst (λ (a : DebugAsked). RunsDebug a streams status Alone) same (record {
  tells = record { bad = λ no. inl (bad_status outcome status (bad no) is); right = right_status v.is_tape (map_asked v) outcome status ends is };
  serves = (outcome, is, served);
  ended = ended_served v v streams.given streams.left streams.held streams.now Alone outcome status refl served is;
})
