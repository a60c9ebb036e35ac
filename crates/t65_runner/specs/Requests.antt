-- A call that an interrupt comes into. Source: mos65.
use Rattle.std.specs.Prelude.{ℕ, zero, suc, ◌+◌, ◌-◌, ◌==◌, ◌&&◌, not, nat_le, Bool, true, false, if◌then◌else◌, List, [], ◌∷◌, Option, Some, None, Result, Ok, Err}
use Rattle.model.specs.Session.{Session, with_state}
use Rattle.model.specs.State.{State}
use Rattle.model.specs.Step.{step}
use Rattle.model.specs.declared.event.Event.{Event}
use Rattle.model.specs.declared.event.Event.TheVariants as event
use Rattle.model.specs.declared.event.EventFault.{EventFault}
use Rattle.model.specs.declared.run_end.RunEnd.{RunEnd}
use Rattle.model.specs.declared.run_end.Why.TheVariants.{Break, Limit, Refused}
use Rattle.model.specs.declared.session_fault.SessionFault.{SessionFault}
use Rattle.rig.specs.Subroutine.{after_events, return_address, run_to_of}
use Rattle.t65_reader.specs.declared.row.Signal.{Signal}
use Rattle.t65_reader.specs.declared.row.Signal.TheVariants.{Irq, Nmi}
use Rattle.t65_runner.specs.declared.requests.Awaited.{Awaited}
use Rattle.t65_runner.specs.declared.requests.CallEnd.{CallEnd}
use Rattle.t65_runner.specs.declared.requests.Wait.{Wait}
use Rattle.t65_runner.specs.declared.requests.Wait.TheVariants.{Due, Ended}

-- ---- when it comes

-- An IRQ waits as long as I is 1; an NMI never waits.
abbrev pub is_open : Signal → State → Bool
is_open Irq s = not s.regs.flags.i
is_open Nmi s = true

-- Before an instruction, the interrupt is due if the call has taken as many cycles and it need not
-- wait.
abbrev pub is_due : Awaited → State → Bool
is_due awaited s = nat_le awaited.cycle (s.cycles - awaited.start) && is_open awaited.signal s

abbrev pub is_due_in : Option Awaited → State → Bool
is_due_in None s = false
is_due_in (Some awaited) s = is_due awaited s

-- What comes then, as events: the line is set, the entry is made, and the line is let go; or an NMI is
-- asked for, and its entry is made.
abbrev pub arrival_events : Signal → List Event
arrival_events Irq = event.Irq true ∷ event.Step ∷ event.Irq false ∷ []
arrival_events Nmi = event.Nmi ∷ event.Step ∷ []

unfoldable pub after_arrival : Signal → Session → Session
after_arrival signal s = after_events s (arrival_events signal)

-- ---- the run

-- A step ends the call if it is rejected, or leads back.
abbrev pub waited_on : ℕ → Session → (Session → Wait × Session) → Result State EventFault
    → Wait × Session
waited_on did s next (Err fault) = (Ended (record { did = did; why = Refused fault }), s)
waited_on did s next (Ok state) = if state.regs.pc == return_address
    then (Ended (record { did = did + 1; why = Break return_address }), with_state s state)
    else next (with_state s state)

-- After some steps, so many more at most are made before the interrupt is due.
unfoldable pub waited : Awaited → ℕ → ℕ → Session → Wait × Session
waited awaited did zero s = (Ended (record { did = did; why = Limit }), s)
waited awaited did (suc n) s = if is_due awaited s.current then (Due did, s)
    else waited_on did s (waited awaited (did + 1) n) (step s.current)

abbrev pub ended_after : ℕ → Result (RunEnd × Session) SessionFault
    → Result (CallEnd × Session) SessionFault
ended_after before (Ok ran) = Ok (record { before = Some before; end = ran.0 }, ran.1)
ended_after before (Err fault) = Err fault

-- The entry is a step; those that are left lead back.
abbrev pub ended_by : ℕ → Signal → Wait × Session → Result (CallEnd × Session) SessionFault
ended_by limit signal (Due did, s) = ended_after did
    (run_to_of return_address (limit - did - 1) (after_arrival signal s))
ended_by limit signal (Ended end, s) = Ok (record { before = None; end = end }, s)

-- How a call of so many steps at most ends that an interrupt comes into, and the session after it.
unfoldable pub awaiting : Awaited → ℕ → Session → Result (CallEnd × Session) SessionFault
awaiting awaited limit s = ended_by limit awaited.signal (waited awaited 0 limit s)
