-- What a turn says of its step: the line that was handed in, and the states before and after.
use Rattle.std.proofs.Common.{◌≡◌, ◌∙◌, ◌+◌, ◌-◌, ◌≤◌, ℕ, zero, suc, Bool, true, false, List, [], ◌∷◌, ◌++◌, length, take, drop, Option, Some, None, Result, Ok, Err, refl, sym, ap, arith, inl, inr, if◌then◌else◌, append-nil, length-append}
use Rattle.std.specs.Prelude.{◌==◌, nat_le}
use Rattle.std.proofs.lemmas.Bool.Decides.{leb_tells}
use Rattle.std.proofs.lemmas.List.{append_cancel_right, take-append-drop}
use Rattle.model.specs.Event.{event_of, input_of}
use Rattle.model.specs.State.{IsState, State}
use Rattle.model.specs.Step.{step}
use Rattle.model.specs.Session.{Session}
use Rattle.model.specs.Transcript.{after_event, after_input}
use Rattle.model.specs.declared.event.Event.TheVariants as event
use Rattle.model.specs.declared.event.EventFault.{EventFault}
use Rattle.console.specs.Given.{given_to}
use Rattle.console.specs.Line.{line_at, room_of}
use Rattle.console.specs.Playing.{Play, Turn, asks, came, ending_here, line_for, stepped, turn_of, unless_ended, with_line}
use Rattle.console.specs.Turns.{Known, play_at, turn_to}
use Rattle.console.specs.declared.ending.Ending.{Ending}
use Rattle.console.specs.declared.memo.Memo.{Memo}
use Rattle.console.proofs.Lines.{given-then}
use Rattle.page_data.specs.Steps.{with_input}

-- ---- a line is a front of the input

front_by : (b : Bool) (x room : ℕ) (line rest : List ℕ) → line ≡ take (length line) rest → length line ≤ room
    → ((if b then x ∷ [] else x ∷ line) ≡ take (length (if b then x ∷ [] else x ∷ line)) (x ∷ rest)) × (length (if b then x ∷ [] else x ∷ line) ≤ suc room)
front_by true x room line rest e within = (refl, omega arith)
front_by false x room line rest e within = (ap (λ (l : List ℕ). x ∷ l) e, omega (arith, within))

line_front : (room : ℕ) (input : List ℕ) → (line_at room input ≡ take (length (line_at room input)) input) × (length (line_at room input) ≤ room)
unfolding line_at
line_front zero input = (refl, omega arith)
line_front (suc room) [] = (refl, omega arith)
line_front (suc room) (b ∷ rest) =
    let more = line_front room rest in front_by (b == 10) b room (line_at room rest) rest more.0 more.1

for_by : (asked : Bool) (state : State) (input : List ℕ)
    → ((if asked then line_at (room_of state) input else []) ≡ take (length (if asked then line_at (room_of state) input else [])) input)
    × (length (if asked then line_at (room_of state) input else []) ≤ room_of state)
for_by true state input = line_front (room_of state) input
for_by false state input = (refl, omega arith)

line_for_front : (memo : Memo) (state : State) (input : List ℕ) → (line_for memo state input ≡ take (length (line_for memo state input)) input)
    × (length (line_for memo state input) ≤ room_of state)
line_for_front memo state input = for_by (asks memo state) state input

-- the input before what is left is the line
front_is : (line told rest : List ℕ) → line ≡ take (length line) (told ++ rest) → drop (length line) (told ++ rest) ≡ rest → line ≡ told
front_is line told rest front left =
    sym (append_cancel_right told line rest
    (sym (take-append-drop (length line) (told ++ rest))
    ∙ ap (λ (l : List ℕ). l ++ drop (length line) (told ++ rest)) (sym front)
    ∙ ap (λ (l : List ℕ). line ++ l) left))

-- ---- what a turn leaves

left_by : (e : Option Ending) (q : Play) (asked some : Bool) (r : Result State EventFault) → (unless_ended e q (stepped q asked some r)).play.input ≡ q.input
left_by (Some why) q asked some r = refl
left_by None q asked some (Ok after) = refl
left_by None q asked some (Err fault) = refl

turn_left : (p : Play) → (turn_of p).play.input ≡ drop (length (line_for p.memo p.session.current p.input)) p.input
unfolding turn_of
turn_left p =
    let line = line_for p.memo p.session.current p.input in
    let q = with_line line p in
    left_by (ending_here p.memo p.written (asks p.memo p.session.current) (came line) q.session.current) q (asks p.memo p.session.current) (came line)
    (step q.session.current)

-- the line of a turn is what was read
pub turn_line : (s t : Session) (k after : Known) (told rest : List ℕ) (ending : Option Ending)
    → turn_of (play_at s k (told ++ rest)) ≡ turn_to ending t after rest
    → line_for k.memo s.current (told ++ rest) ≡ told
turn_line s t k after told rest ending turn =
    let p = play_at s k (told ++ rest) in
    front_is (line_for k.memo s.current (told ++ rest)) told rest (line_for_front k.memo s.current (told ++ rest)).0
    (sym (turn_left p) ∙ ap (λ (x : Turn). x.play.input) turn)

-- ---- the step of a turn

none_some : {A : Type 0} (x : A) → Some x ≡ None → ⊥
none_some x e = absurd cc

stepped_to : (e : Option Ending) (q : Play) (asked some : Bool) (r : Result State EventFault) (t : Session)
    → (unless_ended e q (stepped q asked some r)).ending ≡ None
    → (unless_ended e q (stepped q asked some r)).play.session ≡ t → r ≡ Ok t.current
stepped_to (Some why) q asked some r t none is = absurd (none_some why none)
stepped_to None q asked some (Ok state) t none is = ap (λ (u : Session). Ok u.current) is
stepped_to None q asked some (Err fault) t none is = absurd (none_some _ none)

turn_steps : (p : Play) (t : Session) → (turn_of p).ending ≡ None → (turn_of p).play.session ≡ t
    → step (after_input p.session (line_for p.memo p.session.current p.input)).current ≡ Ok t.current
unfolding turn_of
turn_steps p t none is =
    let line = line_for p.memo p.session.current p.input in
    let q = with_line line p in
    stepped_to (ending_here p.memo p.written (asks p.memo p.session.current) (came line) q.session.current) q (asks p.memo p.session.current)
    (came line) (step q.session.current) t none is

-- ---- input that has room

room_left : (given : ℕ) (n : ℕ) → given + suc n ≤ 65536 → nat_le 65536 given ≡ false
room_left given n within = elim (leb_tells 65536 given) [
  | inl h ↦ absurd (omega (arith, h.1, within))
  | inr h ↦ h.0
]

handed : (state : State) (b : ℕ) → nat_le 65536 (length state.bus.given) ≡ false → event_of state (event.Input b) ≡ Ok (given_to state (b ∷ []))
unfolding event_of input_of
handed state b room = rw room refl

after_handed : (s : Session) (state : State) (b : ℕ) (bytes : List ℕ) → event_of s.current (event.Input b) ≡ Ok state
    → after_input s (b ∷ bytes) ≡ after_input (after_event s (Ok state)) bytes
unfolding after_input
after_handed s state b bytes e = ap (λ (r : Result State EventFault). after_input (after_event s r) bytes) e

event_current : (s : Session) (state : State) → (after_event s (Ok state)).current ≡ state
event_current s state = refl

given_none : (s : Session) → (after_input s []).current ≡ given_to s.current []
unfolding after_input
given_none s = ap (λ (l : List ℕ). record s.current { bus = record s.current.bus { given = l } }) (sym (append-nil s.current.bus.given))

pub input_given : (s : Session) (bytes : List ℕ) → length s.current.bus.given + length bytes ≤ 65536 → (after_input s bytes).current ≡ given_to s.current bytes
input_given s [] within = given_none s
input_given s (b ∷ bytes) within =
    let state = given_to s.current (b ∷ []) in
    let next = after_event s (Ok state) in
    let size : length state.bus.given ≡ length s.current.bus.given + 1 = length-append s.current.bus.given (b ∷ []) in
    ap (λ (u : Session). u.current) (after_handed s state b bytes (handed s.current b (room_left (length s.current.bus.given) (length bytes) within)))
    ∙ input_given next bytes (omega (arith, size, within))
    ∙ given-then s.current (b ∷ []) bytes

-- the state after a turn that makes a step is that after the step
pub turn_step : (s t : Session) (k after : Known) (told : List ℕ) → IsState s.current → turn_of (play_at s k (told ++ [])) ≡ turn_to None t after []
    → step (with_input told s.current) ≡ Ok t.current
turn_step s t k after told sound turn =
    let p = play_at s k (told ++ []) in
    let line = line_for k.memo s.current (told ++ []) in
    let is : line ≡ told = turn_line s t k after told [] None turn in
    let room : length line ≤ room_of s.current = (line_for_front k.memo s.current (told ++ [])).1 in
    let few : length s.current.bus.given ≤ 65536 = sound.bus.given_room in
    ap step (sym (ap (λ (l : List ℕ). with_input l s.current) is))
    ∙ ap step (sym (input_given s line (omega (arith, room, few))))
    ∙ turn_steps p t (ap (λ (x : Turn). x.ending) turn) (ap (λ (x : Turn). x.play.session) turn)
