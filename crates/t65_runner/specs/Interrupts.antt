-- A handler called as an interrupt enters it. Source: mos65; what an interrupt pushes and RTI pulls,
-- MCS6500 manual, chapter 9.
use Rattle.std.specs.Prelude.{ℕ, ◌+◌, ◌%◌, false, true, List, [], ◌∷◌, Result}
use Rattle.model.specs.Effect.{decimal_after_entry, status}
use Rattle.model.specs.Session.{Session}
use Rattle.model.specs.declared.event.Event.{Event}
use Rattle.model.specs.declared.event.Event.TheVariants.{Set}
use Rattle.model.specs.declared.event.Setting.TheVariants.{S, P, Pc}
use Rattle.model.specs.declared.instruction.Profile.{Profile}
use Rattle.model.specs.declared.registers.Flags.{Flags}
use Rattle.model.specs.declared.registers.Regs.{Regs}
use Rattle.model.specs.declared.run_end.RunEnd.{RunEnd}
use Rattle.model.specs.declared.session_fault.SessionFault.{SessionFault}
use Rattle.rig.specs.Subroutine.{after_events, byte_patched, return_address, run_to_of}

-- The flags after the entry: I is 1, and in profile C D is 0.
abbrev pub entered_flags : Profile → Flags → Flags
entered_flags profile flags = record flags {
  d = decimal_after_entry profile flags.d;
  i = true;
}

-- What an interrupt's entry at $FFFF does, as events: the program counter is pushed, the high byte
-- first, and then the status with B clear; the stack pointer goes down by three and wraps within
-- page one; the flags are set; and the program counter is the handler's address.
abbrev pub entry_events : Profile → ℕ → Regs → List Event
entry_events profile address regs =
    byte_patched (256 + regs.s) 0xFF
    ∷ byte_patched (256 + (regs.s + 255) % 256) 0xFF
    ∷ byte_patched (256 + (regs.s + 254) % 256) (status false regs.flags)
    ∷ Set (S ((regs.s + 253) % 256))
    ∷ Set (P (status false (entered_flags profile regs.flags)))
    ∷ Set (Pc address)
    ∷ []

unfoldable pub interrupted : ℕ → Session → Session
interrupted address s
    = after_events s (entry_events s.current.bus.map.profile address s.current.regs)

-- A handler called, and run until RTI has taken it back.
unfoldable pub interrupt_of : ℕ → ℕ → Session → Result (RunEnd × Session) SessionFault
interrupt_of address limit s = run_to_of return_address limit (interrupted address s)
