-- Laws of states.
use Rattle.std.specs.Prelude.{◌≡◌, ℕ, ◌<◌, true, false, List, Option, Ok, ⊤}
use Rattle.std.specs.List.{All}
use Rattle.model.specs.State.{Map, State, is_map, has_port_byte, AreBytes, IsState}
use Rattle.model.specs.Image.{IsImage}
use Rattle.model.specs.Event.{event_of, start}
use Rattle.model.specs.Session.{Session, new_session}
use Rattle.model.specs.Back.{Accepts, back_of, states}
use Rattle.model.specs.Calls.{Call, after_calls}
use Rattle.model.specs.Calls.Call.{happen}
use Rattle.model.specs.declared.event.Setting.{Setting}
use Rattle.model.specs.declared.event.Setting.TheVariants.{A, X, Y, S, P, Pc}
use Rattle.model.specs.declared.event.Event.{Event}
use Rattle.model.specs.declared.event.Event.TheVariants.{Step, Reset, Irq, Nmi, Set, Patch, Input}

-- A register's new value has as many bits as the register. The types of the code say no less.
abbrev pub IsSetting : Setting → Type 0
IsSetting (A value) = value < 256
IsSetting (X value) = value < 256
IsSetting (Y value) = value < 256
IsSetting (S value) = value < 256
IsSetting (P value) = value < 256
IsSetting (Pc value) = value < 65536

-- An event's bytes are bytes, and its register's value is in range. The types of the code say no
-- less.
abbrev pub IsEvent : Event → Type 0
IsEvent Step = ⊤
IsEvent Reset = ⊤
IsEvent (Irq level) = ⊤
IsEvent Nmi = ⊤
IsEvent (Set setting) = IsSetting setting
IsEvent (Patch address bytes count) = AreBytes bytes
IsEvent (Input byte) = byte < 256

-- A start is a state.
abbrev pub StartsAreStates : Type 0
StartsAreStates = (map : Map) (image : List (Option ℕ)) → is_map map.rom map.port ≡ true
    → IsImage image → has_port_byte map image ≡ false → IsState (start map image)

-- An event that is accepted leads from a state to a state with the same map.
abbrev pub EventsKeepStates : Type 0
EventsKeepStates = (before after : State) (event : Event) → IsState before → IsEvent event
    → event_of before event ≡ Ok after
    → IsState after × (after.bus.map ≡ before.bus.map)

-- All states of a session are states with one map.
abbrev pub HoldsStates : Map → Session → Type 0
HoldsStates map s = All (λ (state : State). IsState state × (state.bus.map ≡ map)) (states s)

-- The event of a call is one in the same sense.
abbrev pub IsCall : Call → Type 0
IsCall (happen event) = IsEvent event
IsCall call = ⊤

-- A session that begins in a valid state holds nothing but valid states with its map: after all
-- events, after any number of them was undone, and after any calls.
abbrev pub SessionsHoldStates : Type 0
SessionsHoldStates =
    ((history : ℕ) (state : State) → IsState state
    → HoldsStates state.bus.map (new_session history state))
    × ((map : Map) (s t : Session) (events : List Event) → HoldsStates map s → All IsEvent events
    → Accepts s events t → HoldsStates map t)
    × ((map : Map) (k : ℕ) (s t : Session) → HoldsStates map s → back_of k s ≡ Ok t
    → HoldsStates map t)
    × ((map : Map) (s : Session) (calls : List Call) → HoldsStates map s → All IsCall calls
    → HoldsStates map (after_calls s calls))
