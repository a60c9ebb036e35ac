-- How a call of the engine ends, before a session stands and while it is served.
use Rattle.std.proofs.Common.{◌≡◌, ◌∙◌, ℕ, List, [], Option, Result, Ok, Err, IfErr, sym, subst, inl, inr}
use Rattle.std.proofs.KnownBytes.{Consumes-nil}
use Rattle.std.specs.Prelude.{⊤}
use Rattle.std.specs.Result.{IsErrAnd}
use Rattle.model.specs.Session.{Session}
use Rattle.model.specs.declared.source_fault.AsmFault.{AsmFault}
use Rattle.model.specs.declared.session_fault.SessionFault.{SessionFault}
use Rattle.model.specs.declared.session_fault.SessionFault.TheVariants as session_fault
use Rattle.model.specs.declared.tape.TapeFault.{TapeFault}
use Rattle.engine.specs.declared.fault.EngineFault.{EngineFault}
use Rattle.engine.specs.declared.fault.EngineFault.TheVariants as engine_fault
use Rattle.engine.specs.Outcome.{Begins, EndsReply, EndsServing, Reaches, Serves}
use Rattle.engine.specs.Refusals.{IfSession, IfSource, IfTape, of_session, of_source, of_tape}
use Rattle.engine.proofs.Refused.{source_either, tape_either}
use Rattle.model.proofs.Written.{front_none}

-- ---- before a session stands

-- A part was refused, so no read or write has failed.
abbrev pub IsEarly : EngineFault → Type 0
IsEarly engine_fault.Read = ⊥
IsEarly engine_fault.Write = ⊥
IsEarly fault = ⊤

pub early_source : {X : Type 0} (result : Result X EngineFault) (f : AsmFault) → IsErrAnd result (λ e. e ≡ of_source f) → IsErrAnd result IsEarly
early_source (Ok x) f h = h
early_source (Err e) f h = elim (source_either f.kind f) [
  | inl s ↦ subst IsEarly (sym (h ∙ s)) tt
  | inr m ↦ subst IsEarly (sym (h ∙ m)) tt
]

pub early_tape : {X : Type 0} (result : Result X EngineFault) (f : TapeFault) → IsErrAnd result (λ e. e ≡ of_tape f) → IsErrAnd result IsEarly
early_tape (Ok x) f h = h
early_tape (Err e) f h = elim (tape_either f.kind f) [
  | inl s ↦ subst IsEarly (sym (h ∙ s)) tt
  | inr m ↦ subst IsEarly (sym (h ∙ m)) tt
]

of_session_early : (f : SessionFault) → IsEarly (of_session f)
of_session_early session_fault.OutOfMemory = tt
of_session_early _ = tt

pub early_session : {X : Type 0} (result : Result X EngineFault) (f : SessionFault) → IsErrAnd result (λ e. e ≡ of_session f) → IsErrAnd result IsEarly
early_session (Ok x) f h = h
early_session (Err e) f h = subst IsEarly (sym h) (of_session_early f)

none_written : (s : Session) (input held : Option (List ℕ)) → Begins s input input held held
none_written s input held = ([], Consumes-nil input, inl (front_none held _))

-- Nothing was written, which is a beginning of the transcript.
pub early_serves : {X : Type 0} (result : Result X EngineFault) (s : Session) (input held : Option (List ℕ)) → IsErrAnd result IsEarly
    → Serves s input input held held result
early_serves (Ok x) s input held h = absurd h
early_serves (Err engine_fault.Read) s input held h = absurd h
early_serves (Err engine_fault.Write) s input held h = absurd h
early_serves (Err engine_fault.OutOfMemory) s input held h = none_written s input held
early_serves (Err fault) s input held h = tt

pub early_reaches : {X : Type 0} (result : Result X EngineFault) (Stood Alone : Type 0) → IsErrAnd result IsEarly → Alone → Reaches result Stood Alone
early_reaches (Ok x) Stood Alone h alone = absurd h
early_reaches (Err engine_fault.Read) Stood Alone h alone = absurd h
early_reaches (Err engine_fault.Write) Stood Alone h alone = absurd h
early_reaches (Err engine_fault.OutOfMemory) Stood Alone h alone = inr alone
early_reaches (Err fault) Stood Alone h alone = alone

-- Another thing holds where a session stood.
pub reaches_with : {X : Type 0} (result : Result X EngineFault) (Stood Other Alone : Type 0) → Other → Reaches result Stood Alone → Reaches result Other Alone
reaches_with (Ok x) Stood Other Alone other h = other
reaches_with (Err engine_fault.Read) Stood Other Alone other h = other
reaches_with (Err engine_fault.Write) Stood Other Alone other h = other
reaches_with (Err engine_fault.OutOfMemory) Stood Other Alone other h = inl other
reaches_with (Err fault) Stood Other Alone other h = h

-- ---- while it is served

pub replying_serving : (fault : EngineFault) → EndsReply fault → EndsServing fault
replying_serving engine_fault.Write h = tt
replying_serving engine_fault.OutOfMemory h = tt
replying_serving fault h = absurd h

-- A reply that was cut short leaves a beginning of the transcript of what was told.
pub replying_serves : (X : Type 0) (s : Session) (input left held now : Option (List ℕ)) (fault : EngineFault) → EndsReply fault
    → Begins s input left held now → Serves {X = X} s input left held now (Err fault)
replying_serves X s input left held now engine_fault.Write h front = front
replying_serves X s input left held now engine_fault.OutOfMemory h front = front
replying_serves X s input left held now fault h front = absurd h

pub serving_reaches : {X : Type 0} (result : Result X EngineFault) (Alone : Type 0) → IfErr result EndsServing → Reaches result ⊤ Alone
serving_reaches (Ok x) Alone h = tt
serving_reaches (Err engine_fault.Read) Alone h = tt
serving_reaches (Err engine_fault.Write) Alone h = tt
serving_reaches (Err engine_fault.OutOfMemory) Alone h = inl tt
serving_reaches (Err fault) Alone h = absurd h

pub serving_no_source : {X : Type 0} (result : Result X EngineFault) → IfErr result EndsServing → IfSource result (λ _. ⊥)
serving_no_source (Ok x) h = tt
serving_no_source (Err (engine_fault.Source fault)) h = h
serving_no_source (Err fault) h = tt

pub serving_no_tape : {X : Type 0} (result : Result X EngineFault) → IfErr result EndsServing → IfTape result (λ _. ⊥)
serving_no_tape (Ok x) h = tt
serving_no_tape (Err (engine_fault.Tape fault)) h = h
serving_no_tape (Err fault) h = tt

pub serving_no_session : {X : Type 0} (result : Result X EngineFault) (P : SessionFault → Type 0) → IfErr result EndsServing → IfSession result P
serving_no_session (Ok x) P h = tt
serving_no_session (Err (engine_fault.Session fault)) P h = absurd h
serving_no_session (Err fault) P h = tt
