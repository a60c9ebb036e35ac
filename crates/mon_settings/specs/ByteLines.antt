-- What lines do that put bytes into memory or hand them in. Source: mos65.
use Rattle.std.specs.Prelude.{ℕ, ◌+◌, ◌-◌, nat_lt, if◌then◌else◌, List, [], ◌∷◌, ◌++◌, length, map, replicate, is_ok, Option, None, Some, Result, Ok, Err}
use Rattle.model.specs.Event.{event_of}
use Rattle.model.specs.OneLineAssembly.{one_line}
use Rattle.model.specs.declared.source_fault.AsmFaultKind.{AsmFaultKind}
use Rattle.model.specs.declared.event.Event.{Event}
use Rattle.model.specs.declared.event.Event.TheVariants.{Input, Patch}
use Rattle.model.specs.State.{State}
use Rattle.model.specs.declared.event.EventFault.{EventFault}
use Rattle.mon_session.specs.Course.{Course, happened}

-- Events one after another, up to the first that is rejected, which changes nothing.
unfoldable pub all_happened : List Event → Course → Course
all_happened [] course = course
all_happened (e ∷ es) course = if is_ok (event_of course.0.current e)
    then all_happened es (happened e course) else course

-- Why the first of some events is rejected that is, if one is.
abbrev pub if_fault : Option EventFault → Result State EventFault → Option EventFault
if_fault rest (Ok state) = rest
if_fault rest (Err fault) = Some fault

unfoldable pub first_fault : List Event → Course → Option EventFault
first_fault [] course = None
first_fault (e ∷ es) course = if_fault (first_fault es (happened e course))
    (event_of course.0.current e)

-- The events that put bytes into memory from an address on.
abbrev pub patches : ℕ → List ℕ → List Event
patches address [] = []
patches address (byte ∷ bytes) = Patch address (byte ∷ 0 ∷ 0 ∷ []) 1 ∷ patches (address + 1) bytes

-- Bytes put into memory. Nothing happens if they go past FFFF.
abbrev pub bytes_put : ℕ → List ℕ → Course → Course
bytes_put address bytes course = if nat_lt 65536 (address + length bytes) then course
    else all_happened (patches address bytes) course

-- Bytes handed to the console's input.
abbrev pub inputs : List ℕ → List Event
inputs bytes = map Input bytes

-- ---- an instruction

-- A patch has room for three bytes, of which the first are taken.
abbrev pub patch : ℕ → List ℕ → Event
patch address bytes = Patch address (bytes ++ replicate (3 - length bytes) 0) (length bytes)

-- The bytes that a text denotes are put into memory at once. Nothing happens if it denotes none.
abbrev pub if_assembled : ℕ → Course → Result (List ℕ) AsmFaultKind → Course
if_assembled address course (Ok bytes) = happened (patch address bytes) course
if_assembled address course (Err kind) = course

abbrev pub assembled : ℕ → List ℕ → Course → Course
assembled address text course = if_assembled address course
    (one_line course.0.current.bus.map.profile address text)
