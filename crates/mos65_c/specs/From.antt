-- A machine that begins with the memory and the registers of another one. Source: mos65.
use Rattle.std.specs.Prelude.{◌≡◌, ◌≢◌, ℕ, ◌+◌, List, [], ◌∷◌, take, drop, false, Option, Some, None}
use Rattle.model.specs.Effect.{status as status_byte}
use Rattle.model.specs.Event.{start}
use Rattle.model.specs.Image.{empty_image, with_bytes}
use Rattle.model.specs.Session.{Session, new_session}
use Rattle.model.specs.State.{State}
use Rattle.model.specs.declared.event.Event.{Event}
use Rattle.model.specs.declared.event.Event.TheVariants.{Set}
use Rattle.model.specs.declared.event.Setting.TheVariants.{A, X, Y, S, P, Pc}
use Rattle.model.specs.declared.registers.Regs.{Regs}
use Rattle.mos65_c.specs.declared.config.Config.{Config}
use Rattle.mos65_c.specs.Status.{config_map, config_status, port_of}
use Rattle.rig.specs.Subroutine.{after_events}

-- All bytes of memory but those at a port's four addresses.
abbrev pub image_beside : ℕ → List ℕ → List (Option ℕ)
image_beside port memory
    = with_bytes (with_bytes empty_image 0 (take port memory)) (port + 4) (drop (port + 4) memory)

-- All registers set, one after the other.
abbrev pub register_events : Regs → List Event
register_events regs =
    Set (A regs.a)
    ∷ Set (X regs.x)
    ∷ Set (Y regs.y)
    ∷ Set (S regs.s)
    ∷ Set (P (status_byte false regs.flags))
    ∷ Set (Pc regs.pc)
    ∷ []

-- A session that starts with the memory of a state, and then has its registers set.
unfoldable pub begun_from : Config → State → Session
begun_from c state = after_events
    (new_session c.history (start (config_map c) (image_beside (port_of c) state.bus.memory)))
    (register_events state.regs)

-- A closed machine opened under a configuration with what another machine's state has. 0: the
-- session is that one, in the registers of the state. Else the configuration is refused, or memory,
-- which is 3 or 206, and the machine is closed as before.
pub record AnswersFrom (c : Config) (state : State) (status : ℕ) (now : Option Session) : Type 0
  where
    pub refused : config_status c ≢ 0 → status ≡ config_status c
    pub ok : status ≡ 0 → now ≡ Some (begun_from c state)
    pub regs : status ≡ 0 → (begun_from c state).current.regs ≡ state.regs
    pub same : status ≢ 0 → now ≡ None
    pub right : config_status c ≡ 0 → status ≢ 3 → status ≢ 206 → status ≡ 0
