-- Bytes of input for which there is room.
use Rattle.std.proofs.Common.{◌≡◌, ℕ, ◌+◌, ◌<◌, ◌≤◌, Bool, true, false, List, [], ◌∷◌, ◌++◌, Result, Ok, Err, OnOk, IfErr, refl, sym, ap, ◌∙◌, length, take, drop, get_or, drop-cons, add-one, arith, append_assoc, length-append, length-take, lt-ltb, inl, inr}
use Rattle.std.specs.Prelude.{nat_lt}
use Rattle.std.proofs.lemmas.Bool.{lt-leb, le-ltb, cases_lt, ltb-false}
use Rattle.std.proofs.lemmas.List.{take_all, take_more, drop_all}
use Rattle.model.specs.State.{State, console_size}
use Rattle.model.specs.Session.{Session, with_state}
use Rattle.model.specs.Event.{event_of, input_of}
use Rattle.model.specs.Transcript.{after_event, after_input}
use Rattle.model.specs.declared.event.Event.TheVariants as event
use Rattle.model.specs.declared.event.EventFault.{EventFault}

-- One byte more handed in.
abbrev pub given_more : State → ℕ → State
given_more state b = record state { bus = record state.bus { given = state.bus.given ++ b ∷ [] } }

-- Where there is room, the event is accepted.
pub accepts : (state : State) (b : ℕ) → length state.bus.given + 1 ≤ 65536 → event_of state (event.Input b) ≡ Ok (given_more state b)
unfolding event_of input_of
accepts state b h = rw (lt-leb console_size (length state.bus.given) (omega arith)) refl

abbrev state_in : State → Result State EventFault → State
state_in other (Ok state) = state
state_in other (Err fault) = other

abbrev is_accepted : Result State EventFault → Bool
is_accepted (Ok state) = true
is_accepted (Err fault) = false

true_false : true ≡ false → ⊥
true_false h = cc

refused : (state : State) (fault : EventFault) (r : Result State EventFault) → r ≡ Ok state → r ≡ Err fault → ⊥
refused state fault r e f = true_false (sym (ap is_accepted e) ∙ ap is_accepted f)

-- So the session holds it, whatever the call's result.
pub handed : (s n : Session) (b : ℕ) (r : Result (Unit {0}) EventFault) → length s.current.bus.given + 1 ≤ 65536
    → OnOk r ((state : State) × (event_of s.current (event.Input b) ≡ Ok state) × (n ≡ with_state s state))
    → IfErr r (λ fault. (event_of s.current (event.Input b) ≡ Err fault) × (n ≡ s)) → n ≡ with_state s (given_more s.current b)
handed s n b (Ok u) room ok err = ok.2 ∙ ap (λ r. with_state s (state_in s.current r)) (sym ok.1 ∙ accepts s.current b room)
handed s n b (Err fault) room ok err = absurd (refused (given_more s.current b) fault (event_of s.current (event.Input b)) (accepts s.current b room) err.0)

pub after_one : (s : Session) (b : ℕ) → length s.current.bus.given + 1 ≤ 65536 → after_input s (b ∷ []) ≡ with_state s (given_more s.current b)
unfolding after_input
after_one s b room = ap (after_event s) (accepts s.current b room)

after_first : (s : Session) (b : ℕ) (bytes : List ℕ) → after_input s (b ∷ bytes) ≡ after_input (after_input s (b ∷ [])) bytes
unfolding after_input
after_first s b bytes = refl

pub after_none : (s : Session) → after_input s [] ≡ s
unfolding after_input
after_none s = refl

-- one byte after another
pub after_at : (s : Session) (bytes : List ℕ) (i : ℕ) → i < length bytes
    → after_input s (drop i bytes) ≡ after_input (after_input s (get_or bytes i 0 ∷ [])) (drop (i + 1) bytes)
after_at s bytes i h = rw (drop-cons bytes i 0, ← add-one) (after_first s (get_or bytes i 0) (drop (i + 1) bytes))

pub given_at : (before now more : List ℕ) (bytes : List ℕ) (i : ℕ) → i < length bytes → now ≡ before ++ take i bytes
    → more ≡ now ++ get_or bytes i 0 ∷ [] → more ≡ before ++ take (i + 1) bytes
given_at before now more bytes i h e f =
    f ∙ ap (λ l. l ++ get_or bytes i 0 ∷ []) e ∙ append_assoc before (take i bytes) (get_or bytes i 0 ∷ [])
    ∙ ap (λ l. before ++ l) (sym (take_more bytes i 0 h))

pub room_at : (before now : List ℕ) (bytes : List ℕ) (i : ℕ) → i < length bytes → length before + length bytes ≤ 65536 → now ≡ before ++ take i bytes
    → length now + 1 ≤ 65536
room_at before now bytes i h room e =
    let size : length now ≡ length before + length (take i bytes) = ap length e ∙ length-append before (take i bytes) in
    omega (arith, h, room, size, length-take i bytes)

pub after_all : (s : Session) (bytes : List ℕ) (i : ℕ) → length bytes ≤ i → after_input s (drop i bytes) ≡ s
after_all s bytes i h = rw (drop_all i bytes h) (after_none s)

pub given_all : (before now : List ℕ) (bytes : List ℕ) (i : ℕ) → length bytes ≤ i → now ≡ before ++ take i bytes → now ≡ before ++ bytes
given_all before now bytes i h e = e ∙ ap (λ l. before ++ l) (take_all i bytes h)

-- The room tells whether so many more bytes are too many.
pub exceeds : (room given n : ℕ) → room + given ≡ 65536 → nat_lt room n ≡ nat_lt console_size (given + n)
exceeds room given n e = elim (cases_lt room n) [
  | inl h ↦ lt-ltb room n h ∙ sym (lt-ltb console_size (given + n) (omega (arith, e, h)))
  | inr h ↦ le-ltb room n h ∙ sym (le-ltb console_size (given + n) (omega (arith, e, h)))
]

pub fits : (given n : ℕ) → nat_lt console_size (given + n) ≡ false → given + n ≤ 65536
fits given n h = ltb-false console_size (given + n) h

-- All bytes are the first of them where there are no more.
pub first_all : (bytes : List ℕ) (count : ℕ) → length bytes ≤ count → bytes ≡ take count bytes
first_all bytes count h = sym (take_all count bytes h)
