-- What is wrong with a debug file or a listing, and where. Source: mos65.
use Rattle.std.specs.Prelude.{◌≡◌, ℕ, ◌+◌, ◌-◌, List, length, Result, Ok, Err, ⊤}
use Rattle.debug_records.specs.declared.fault.DebugError.{DebugError}
use Rattle.debug_records.specs.declared.fault.DebugError.TheVariants as debug
use Rattle.debug_records.specs.declared.fault.DebugFault.{DebugFault}
use Rattle.debug_records.specs.declared.fault.DebugFaultKind.{DebugFaultKind}
use Rattle.debug_records.specs.declared.fault.LineError.{LineError}
use Rattle.debug_records.specs.declared.fault.LineError.TheVariants as error
use Rattle.debug_records.specs.declared.fault.LineFault.{LineFault}
use Rattle.debug_records.specs.declared.fault.Place.{Place}

-- A fault of a line stands before so many bytes of it.
abbrev pub fault_before : DebugFaultKind → ℕ → LineFault
fault_before kind left = record { kind = kind; left = left }

-- A fault at the front of what is left of a line.
abbrev pub fault_at : DebugFaultKind → List ℕ → LineFault
fault_at kind text = fault_before kind (length text)

-- What a line lacks is missed at its end.
abbrev pub fault_at_end : DebugFaultKind → LineFault
fault_at_end kind = fault_before kind 0

-- The column of what stands before so many bytes of a line that has so many.
abbrev pub column_of : ℕ → ℕ → ℕ
column_of length left = length - left + 1

-- The fault of a line, by its number and its length.
abbrev pub fault_in : Place → LineFault → DebugFault
fault_in place fault = record {
  line = place.line;
  column = column_of place.length fault.left;
  kind = fault.kind;
}

infixl 10 ◌>>=◌
abbrev pub ◌>>=◌ : {A B E : Type 0} → Result A E → (A → Result B E) → Result B E
(Ok x) >>= f = f x
(Err e) >>= f = Err e

-- A result whose value is seen by a view.
abbrev pub seen : {A B E : Type 0} → (A → B) → Result A E → Result B E
seen view (Ok x) = Ok (view x)
seen view (Err e) = Err e

-- Why a step returned nothing is why its definition gives nothing. Nothing is said where memory ran
-- out.
abbrev pub Refuses : {B : Type 0} → LineError → Result B LineFault → Type 0
Refuses (error.Fault fault) gives = gives ≡ Err fault
Refuses error.Memory gives = ⊤

-- What a step returned, seen by a view, is what its definition gives.
abbrev pub Gives : {A B : Type 0} → (A → B) → Result A LineError → Result B LineFault → Type 0
Gives view (Ok x) gives = gives ≡ Ok (view x)
Gives view (Err why) gives = Refuses why gives

-- The same of a whole file.
abbrev pub RefusesInfo : {B : Type 0} → DebugError → Result B DebugFault → Type 0
RefusesInfo (debug.Fault fault) gives = gives ≡ Err fault
RefusesInfo debug.OutOfMemory gives = ⊤

abbrev pub GivesInfo : {A B : Type 0} → (A → B) → Result A DebugError → Result B DebugFault → Type 0
GivesInfo view (Ok x) gives = gives ≡ Ok (view x)
GivesInfo view (Err why) gives = RefusesInfo why gives
