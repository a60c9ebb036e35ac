-- Runs to an address, and subroutines called from outside the program. Source: mos65; what JSR
-- pushes, MCS6500 manual, chapter 8.
use Rattle.std.specs.Prelude.{ℕ, ◌+◌, ◌%◌, List, [], ◌∷◌, Option, Some, None, Result, Ok, Err}
use Rattle.model.specs.Calls.{after_answer}
use Rattle.model.specs.State.{State}
use Rattle.model.specs.Event.{event_of}
use Rattle.model.specs.Session.{Session, with_state}
use Rattle.model.specs.Run.{run_end, after_run}
use Rattle.model.specs.Breakpoints.{break_set, break_cleared}
use Rattle.model.specs.declared.event.Event.{Event}
use Rattle.model.specs.declared.event.Event.TheVariants.{Set, Patch}
use Rattle.model.specs.declared.event.EventFault.{EventFault}
use Rattle.model.specs.declared.event.Setting.{Setting}
use Rattle.model.specs.declared.event.Setting.TheVariants.{A, X, Y, S, Pc}
use Rattle.model.specs.declared.run_end.RunEnd.{RunEnd}
use Rattle.model.specs.declared.session_fault.SessionFault.{SessionFault}
use Rattle.model.specs.declared.session_fault.SessionFault.TheVariants.{AlreadySet}
use Rattle.rig.specs.declared.given.Given.{Given}

-- ---- events

-- The session after an event. One that is refused leaves it as it was.
abbrev pub if_accepted : Session → Result State EventFault → Session
if_accepted s (Ok state) = with_state s state
if_accepted s (Err fault) = s

unfoldable pub after_event : Session → Event → Session
after_event s event = if_accepted s (event_of s.current event)

abbrev pub after_events : Session → List Event → Session
after_events s [] = s
after_events s (event ∷ events) = after_events (after_event s event) events

-- ---- a run to an address

unfoldable pub without_break : ℕ → Session → Session
without_break address s = after_answer s (break_cleared address s)

-- How a run that also ends at an address ends, and the session after it: a breakpoint is set there,
-- the session is made ready, it runs, and the breakpoint is cleared. One that was set before stays
-- set. Where 256 others are set the run is refused.
abbrev pub run_by : ℕ → ℕ → (Session → Session) → Session → Result Session SessionFault
    → Result (RunEnd × Session) SessionFault
run_by address limit ready s (Ok t)
    = Ok (run_end limit (ready t), without_break address (after_run limit (ready t)))
run_by address limit ready s (Err AlreadySet)
    = Ok (run_end limit (ready s), after_run limit (ready s))
run_by address limit ready s (Err fault) = Err fault

unfoldable pub run_to_of : ℕ → ℕ → Session → Result (RunEnd × Session) SessionFault
run_to_of address limit s = run_by address limit (λ t. t) s (break_set address s)

-- ---- a subroutine called

-- Where a called subroutine returns to. No instruction can stand there: it is the high byte of the
-- IRQ vector.
abbrev pub return_address : ℕ
return_address = 0xFFFF

abbrev pub byte_patched : ℕ → ℕ → Event
byte_patched address byte = Patch address (byte ∷ 0 ∷ 0 ∷ []) 1

-- What a JSR at $FFFC does, as events: the address of its last byte, $FFFE, is pushed, the high
-- byte first; the stack pointer goes down by two; and the program counter is the subroutine's
-- address. The stack pointer wraps within page one.
abbrev pub jsr_events : ℕ → ℕ → List Event
jsr_events address stack =
    byte_patched (256 + stack) 0xFF
    ∷ byte_patched (256 + (stack + 255) % 256) 0xFE
    ∷ Set (S ((stack + 254) % 256))
    ∷ Set (Pc address)
    ∷ []

unfoldable pub called : ℕ → Session → Session
called address s = after_events s (jsr_events address s.current.regs.s)

-- A subroutine called, and run to the return address.
unfoldable pub call_of : ℕ → ℕ → Session → Result (RunEnd × Session) SessionFault
call_of address limit s
    = run_by return_address limit (called address) s (break_set return_address s)

-- ---- a subroutine called with registers

-- A register set, where a value is given for it, and the events after that.
abbrev pub set_first : (ℕ → Setting) → Option ℕ → List Event → List Event
set_first to None events = events
set_first to (Some value) events = Set (to value) ∷ events

-- The registers that are given, set one after the other: A, X and then Y.
abbrev pub given_events : Given → List Event
given_events given = set_first A given.a (set_first X given.x (set_first Y given.y []))

unfoldable pub given_to : Given → Session → Session
given_to given s = after_events s (given_events given)

-- A subroutine called with registers, and run to the return address.
unfoldable pub call_with_of : Given → ℕ → ℕ → Session → Result (RunEnd × Session) SessionFault
call_with_of given address limit s = run_by return_address limit
    (λ t. called address (given_to given t)) s (break_set return_address s)
