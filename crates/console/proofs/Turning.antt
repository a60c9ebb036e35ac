-- A turn, and one turn after another.
use Rattle.std.proofs.Common.{◌≡◌, ℕ, suc, ◌+◌, ◌-◌, ◌<◌, ◌≤◌, Bool, true, false, cond, List, [], ◌∷◌, ◌++◌, length, drop, Option, Some, None, Ok, Err, refl, sym, ap, ◌∙◌, arith, append-nil, append_assoc, add_assoc, add-zero, zero-add, inl, inr, subst}
use Rattle.std.proofs.Math.Nat.{sub-zero}
use Rattle.std.specs.Io.KnownBytes.{Appends, Consumes, IsAtEnd, Keeps}
use Rattle.std.proofs.KnownBytes.{Appends-kept}
use Rattle.model.specs.Writers.{AppendsFront}
use Rattle.model.specs.State.{State}
use Rattle.model.specs.Step.{step}
use Rattle.model.specs.Event.{event_of}
use Rattle.model.specs.Session.{Session, with_state}
use Rattle.model.specs.Transcript.{after_input}
use Rattle.model.specs.declared.event.Event.TheVariants as event
use Rattle.model.specs.declared.event.EventFault.{EventFault}
use Rattle.console.specs.Line.{line_at, room_of}
use Rattle.accesses.specs.Access.{access_here}
use Rattle.accesses.specs.Footprint.{stores_by, stores_here}
use Rattle.cpu_step.specs.declared.access.Access.{Access}
use Rattle.model.specs.declared.registers.Regs.{Regs}
use Rattle.accesses.specs.Moments.{entered, moment_of, step_stores, stored_by}
use Rattle.accesses.specs.Writing.{with_bytes}
use Rattle.accesses.specs.declared.moment.Moment.{Moment}
use Rattle.console.specs.Playing.{Play, Turn, asks, ending_after, ending_here, memo_after, line_for, with_line, came, turn_with, unless_ended, stepped, turn_of, Outcome, is_at, later, after_turn, played}
use Rattle.console.specs.Stretches.{Glides, going}
use Rattle.console.specs.Taking.{Waits}
use Rattle.console.specs.Turns.{CutTurn, EndsOnce, EndsWith, IsLine, Known, MayCome, TurnsTo, play_at, turn_to}
use Rattle.console.specs.Written.{AreBytesOf, CutRun, RanAs}
use Rattle.console.specs.declared.memo.Memo.{Memo}
use Rattle.console.specs.declared.ending.Ending.{Ending}
use Rattle.console.specs.declared.ending.Ending.TheVariants.{Refused, Until}
use Rattle.console.proofs.Lines.{input-none, line-none}
use Rattle.console.proofs.Steps.{Leads}

pub drop_told : (told rest : List ℕ) → drop (length told) (told ++ rest) ≡ rest
drop_told [] rest = refl
drop_told (b ∷ told) rest = drop_told told rest

-- the line that is handed in, for the answer whether one is asked for
line_told : (memo : Memo) (state : State) (told rest : List ℕ) (asked over : Bool) → asked ≡ asks memo state → IsLine asked over (room_of state) told
    → MayCome over rest
    → line_for memo state (told ++ rest) ≡ told
line_told memo state told rest asked over e line may = ap (λ b. cond b (line_at (room_of state) (told ++ rest)) []) (sym e) ∙ line rest may

with_told : (s t : Session) (k : Known) (told rest : List ℕ) → t ≡ after_input s told → with_line told (play_at s k (told ++ rest)) ≡ play_at t k rest
with_told s t k told rest e = ap (λ u. play_at u k (drop (length told) (told ++ rest))) (sym e) ∙ ap (play_at t k) (drop_told told rest)

pub turned : (s t : Session) (k : Known) (told rest : List ℕ) (asked over some : Bool) → asked ≡ asks k.memo s.current
    → IsLine asked over (room_of s.current) told → MayCome over rest
    → t ≡ after_input s told → some ≡ came told
    → turn_of (play_at s k (told ++ rest)) ≡ unless_ended (ending_here k.memo k.written asked some t.current) (play_at t k rest)
    (stepped (play_at t k rest) asked some (step t.current))
unfolding turn_of
turned s t k told rest asked over some e line may f h =
    ap (λ b. turn_with b (line_for k.memo s.current (told ++ rest)) (play_at s k (told ++ rest))) (sym e)
    ∙ ap (λ l. turn_with asked l (play_at s k (told ++ rest))) (line_told k.memo s.current told rest asked over e line may)
    ∙ ap (λ q. unless_ended (ending_here k.memo k.written asked (came told) q.session.current) q
    (stepped q asked (came told) (step q.session.current))) (with_told s t k told rest f)
    ∙ ap (λ b. unless_ended (ending_here k.memo k.written asked b t.current) (play_at t k rest) (stepped (play_at t k rest) asked b (step t.current))) (sym h)

-- ---- the step of a turn

pub refused : (s t : Session) (k : Known) (input : List ℕ) (asked some : Bool) (fault : EventFault) → event_of s.current event.Step ≡ Err fault → t ≡ s
    → stepped (play_at s k input) asked some (step s.current) ≡ turn_to (Some (Refused fault)) t k input
unfolding event_of
refused s t k input asked some fault e f =
    ap (λ r. stepped (play_at s k input) asked some r) e ∙ ap (λ u. turn_to (Some (Refused fault)) u k input) (sym f)

pub made : (s t : Session) (state : State) (k after : Known) (input : List ℕ) (asked some : Bool) → event_of s.current event.Step ≡ Ok state
    → t ≡ with_state s state
    → after.memo ≡ memo_after k.memo asked some s.current state.regs → after.written ≡ with_bytes k.written (step_stores s.current state)
    → stepped (play_at s k input) asked some (step s.current) ≡ turn_to None t after input
unfolding event_of
made s t state k after input asked some e f h w =
    let memo : Memo = memo_after k.memo asked some s.current state.regs in
    let written : List Bool = with_bytes k.written (step_stores s.current state) in
    ap (λ r. stepped (play_at s k input) asked some r) e
    ∙ ap (λ u. turn_to None u (record { memo = memo; written = written }) input) (sym f)
    ∙ ap (λ (m : Memo). turn_to None t (record { memo = m; written = written }) input) (sym h)
    ∙ ap (λ (w : List Bool). turn_to None t (record { memo = after.memo; written = w }) input) (sym w)

-- the bytes that a step has put somewhere
pub bytes_made : (w v : List Bool) (s t : Session) (state : State) (m : Moment) (stores stored : List ℕ) → v ≡ with_bytes w stored
    → stored ≡ stored_by (entered m t.current) m.regs.s stores
    → m ≡ moment_of s.current → stores ≡ stores_here s.current → t ≡ with_state s state → v ≡ with_bytes w (step_stores s.current state)
bytes_made w v s t state m stores stored e f at here after =
    e ∙ ap (with_bytes w) (f ∙ ap (λ (u : Session). stored_by (entered m u.current) m.regs.s stores) after
    ∙ ap (λ (x : Moment). stored_by (entered x state) x.regs.s stores) at
    ∙ ap (stored_by (entered (moment_of s.current) state) s.current.regs.s) here)

-- where the instruction at PC stores, by its access
pub stored_here : (s : State) (access : Access) (regs : Regs) (stores : List ℕ) → access ≡ access_here s → regs ≡ s.regs
    → stores ≡ stores_by access regs.s → stores ≡ stores_here s
unfolding stores_here
stored_here s access regs stores is before e = e ∙ ap (λ (a : Access). stores_by a regs.s) is ∙ ap (λ (r : Regs). stores_by (access_here s) r.s) before

pub step_made : (s after : State) → event_of s event.Step ≡ Ok after → step s ≡ Ok after
unfolding event_of
step_made s after e = e

pub waits_on : (s t : State) (waiting n : ℕ) → Leads n s.bus t.bus → Waits s waiting → n ≤ waiting → Waits t (waiting - n)
waits_on s t waiting n h w within =
    let same : length t.bus.given ≡ length s.bus.given = ap length h.given in omega (arith, h.taken)

-- what a step adds to the output
pub added : (s t : State) (n : ℕ) → Leads n s.bus t.bus → (text : List ℕ) × (t.bus.out ≡ s.bus.out ++ text) × (drop (length s.bus.out) t.bus.out ≡ text)
added s t n h = (h.out.0, h.out.1, ap (drop (length s.bus.out)) h.out.1 ∙ drop_told s.bus.out h.out.0)

pub line_over : (asked : Bool) (room : ℕ) (rest : List ℕ) → rest ≡ [] → cond asked (line_at room ([] ++ rest)) [] ≡ []
line_over true room rest e = ap (line_at room) e ∙ line-none room
line_over false room rest e = refl

-- ---- one turn after another

-- the run so far: whatever comes after what was told, it is so many steps and then the rest
pub record RunsOn (until : Option ℕ) (limit : ℕ) (s : Session) (first : Known) (told : List ℕ) (over : Bool) (steps : ℕ) (t : Session) (memo : Known)
    : Type 0 where
  pub runs : (rest : List ℕ) → MayCome over rest → played until limit (play_at s first (told ++ rest))
      ≡ later steps (played until (limit - steps) (play_at t memo rest))

pub later_none : (o : Outcome) → later 0 o ≡ o
later_none o = ap (λ n. record o { steps = n }) (zero-add o.steps)

pub runs_none : (until : Option ℕ) (limit : ℕ) (s : Session) (first : Known) (over : Bool) → RunsOn until limit s first [] over 0 s first
runs_none until limit s first over = record {
  runs = λ rest may.
      ap (λ n. played until n (play_at s first rest)) (sym (sub-zero limit)) ∙ sym (later_none (played until (limit - 0) (play_at s first rest)));
}

pub later_twice : (n m : ℕ) (o : Outcome) → later n (later m o) ≡ later (n + m) o
later_twice n m o = ap (λ k. record o { steps = k }) (sym (add_assoc n m o.steps))

pub played_turn : (until : Option ℕ) (n m : ℕ) (p : Play) → n ≡ suc m → played until n p ≡ after_turn until (turn_of p) (λ q. played until m q)
unfolding played
played_turn until n m p e = ap (λ k. played until k p) e

played_none : (until : Option ℕ) (n : ℕ) (p : Play) → n ≡ 0 → played until n p ≡ record { steps = 0; ending = ending_after p.memo p.session.current; play = p }
unfolding played
played_none until n p e = ap (λ k. played until k p) e

may_all : (over over2 : Bool) (told2 rest : List ℕ) → EndsOnce over over2 told2 → MayCome over2 rest → MayCome over (told2 ++ rest)
may_all over over2 told2 rest once may is =
    let ends = once is in ap (λ l. l ++ rest) ends.0 ∙ may ends.1

abbrev next : Option ℕ → ℕ → Turn → Outcome
next until m turn = after_turn until turn (λ q. played until m q)

-- a run with one turn more
module _ (until : Option ℕ) (limit : ℕ) (s : Session) (first : Known) (told : List ℕ) (over : Bool) (steps : ℕ) (t : Session) (memo : Known)
    (h : RunsOn until limit s first told over steps t memo) (room : steps < limit)
    (told2 : List ℕ) (over2 : Bool) (ending : Option Ending) (u : Session) (memo2 : Known) (once : EndsOnce over over2 told2)
    (turn : TurnsTo t memo told2 over2 ending u memo2) where
  one_turn : (rest : List ℕ) → MayCome over2 rest
      → played until limit (play_at s first ((told ++ told2) ++ rest)) ≡ later steps (next until (limit - (steps + 1)) (turn_to ending u memo2 rest))
  one_turn rest may =
      let less : limit - steps ≡ suc (limit - (steps + 1)) = omega arith in
      ap (λ l. played until limit (play_at s first l)) (append_assoc told told2 rest) ∙ h.runs (told2 ++ rest) (may_all over over2 told2 rest once may)
      ∙ ap (later steps) (played_turn until (limit - steps) (limit - (steps + 1)) (play_at t memo (told2 ++ rest)) less)
      ∙ ap (λ x. later steps (next until (limit - (steps + 1)) x)) (turn rest may)

  pub runs_on : ending ≡ None → is_at until u.current ≡ false → RunsOn until limit s first (told ++ told2) over2 (steps + 1) u memo2
  runs_on none off = record {
    runs = λ rest may.
        one_turn rest may ∙ ap (λ e. later steps (next until (limit - (steps + 1)) (turn_to e u memo2 rest))) none
        ∙ ap (λ b. later steps (cond b (record { steps = 1; ending = Until; play = play_at u memo2 rest })
        (later 1 (played until (limit - (steps + 1)) (play_at u memo2 rest))))) off
        ∙ later_twice steps 1 (played until (limit - (steps + 1)) (play_at u memo2 rest));
  }

  pub ends_at : ending ≡ None → is_at until u.current ≡ true → (rest : List ℕ) → MayCome over2 rest
      → played until limit (play_at s first ((told ++ told2) ++ rest)) ≡ record { steps = steps + 1; ending = Until; play = play_at u memo2 rest }
  ends_at none on rest may =
      one_turn rest may ∙ ap (λ e. later steps (next until (limit - (steps + 1)) (turn_to e u memo2 rest))) none
      ∙ ap (λ b. later steps (cond b (record { steps = 1; ending = Until; play = play_at u memo2 rest })
      (later 1 (played until (limit - (steps + 1)) (play_at u memo2 rest))))) on

  pub ends_with : (why : Ending) → ending ≡ Some why → (rest : List ℕ) → MayCome over2 rest
      → played until limit (play_at s first ((told ++ told2) ++ rest)) ≡ record { steps = steps; ending = why; play = play_at u memo2 rest }
  ends_with why some rest may =
      one_turn rest may ∙ ap (λ e. later steps (next until (limit - (steps + 1)) (turn_to e u memo2 rest))) some
      ∙ ap (λ n. record { steps = n; ending = why; play = play_at u memo2 rest }) (add-zero steps)

-- ---- turns made many at a time

-- the run so far, where a step has led: it may be at the address
pub record GoesOn (until : Option ℕ) (limit : ℕ) (s : Session) (first : Known) (told : List ℕ) (over : Bool) (steps : ℕ) (t : Session) (memo : Known)
    : Type 0 where
  pub runs : (rest : List ℕ) → MayCome over rest → played until limit (play_at s first (told ++ rest))
      ≡ later steps (going until (limit - steps) (play_at t memo rest))

pub goes_turn : (until : Option ℕ) (limit : ℕ) (s : Session) (first : Known) (told : List ℕ) (over : Bool) (steps : ℕ) (t : Session) (memo : Known)
    → RunsOn until limit s first told over steps t memo → steps < limit
    → (told2 : List ℕ) (over2 : Bool) (u : Session) (memo2 : Known) → EndsOnce over over2 told2 → TurnsTo t memo told2 over2 None u memo2
    → GoesOn until limit s first (told ++ told2) over2 (steps + 1) u memo2
goes_turn until limit s first told over steps t memo h room told2 over2 u memo2 once turn = record {
  runs = λ rest may.
      one_turn until limit s first told over steps t memo h room told2 over2 None u memo2 once turn rest may
      ∙ goes_by (is_at until u.current) steps (play_at u memo2 rest) (played until (limit - (steps + 1)) (play_at u memo2 rest));
}
  where
    goes_by : (b : Bool) (steps : ℕ) (p : Play) (o : Outcome)
        → later steps (cond b (record { steps = 1; ending = Until; play = p }) (later 1 o))
        ≡ later (steps + 1) (cond b (record { steps = 0; ending = Until; play = p }) o)
    goes_by true steps p o = ap (λ n. record { steps = n; ending = Until; play = p }) (sym (add-zero (steps + 1)))
    goes_by false steps p o = later_twice steps 1 o

pub goes_far : (until : Option ℕ) (limit : ℕ) (s : Session) (first : Known) (told : List ℕ) (over : Bool) (steps : ℕ) (t : Session) (memo : Known)
    → GoesOn until limit s first told over steps t memo
    → (more : ℕ) (u : Session) (memo2 : Known) → Glides until more t memo u memo2 → more ≤ limit - steps
    → GoesOn until limit s first told over (steps + more) u memo2
goes_far until limit s first told over steps t memo h more u memo2 far within = record {
  runs = λ rest may.
      let left : limit - steps - more ≡ limit - (steps + more) = omega arith in
      h.runs rest may ∙ ap (later steps) (far (limit - steps) rest within) ∙ later_twice steps more _
      ∙ ap (λ n. later (steps + more) (going until n (play_at u memo2 rest))) left;
}

pub goes_past : (until : Option ℕ) (limit : ℕ) (s : Session) (first : Known) (told : List ℕ) (over : Bool) (steps : ℕ) (t : Session) (memo : Known)
    → GoesOn until limit s first told over steps t memo
    → is_at until t.current ≡ false → RunsOn until limit s first told over steps t memo
goes_past until limit s first told over steps t memo h off = record {
  runs = λ rest may.
      h.runs rest may
      ∙ ap (λ b. later steps (cond b (record { steps = 0; ending = Until; play = play_at t memo rest })
      (played until (limit - steps) (play_at t memo rest)))) off;
}

pub goes_there : (until : Option ℕ) (limit : ℕ) (s : Session) (first : Known) (told : List ℕ) (over : Bool) (steps : ℕ) (t : Session) (memo : Known)
    → GoesOn until limit s first told over steps t memo
    → is_at until t.current ≡ true → (rest : List ℕ) → MayCome over rest
    → played until limit (play_at s first (told ++ rest)) ≡ record { steps = steps; ending = Until; play = play_at t memo rest }
goes_there until limit s first told over steps t memo h on rest may =
    h.runs rest may
    ∙ ap (λ b. later steps (cond b (record { steps = 0; ending = Until; play = play_at t memo rest }) (played until (limit - steps) (play_at t memo rest)))) on
    ∙ ap (λ n. record { steps = n; ending = Until; play = play_at t memo rest }) (add-zero steps)

pub ends_full : (until : Option ℕ) (limit : ℕ) (s : Session) (first : Known) (told : List ℕ) (over : Bool) (steps : ℕ) (t : Session) (memo : Known)
    → RunsOn until limit s first told over steps t memo → limit ≤ steps → steps ≤ limit
    → (rest : List ℕ) → MayCome over rest → played until limit (play_at s first (told ++ rest))
    ≡ record { steps = limit; ending = ending_after memo.memo t.current; play = play_at t memo rest }
ends_full until limit s first told over steps t memo h full within rest may =
    let none : limit - steps ≡ 0 = omega arith in
    let all : steps + 0 ≡ limit = omega arith in
    h.runs rest may ∙ ap (later steps) (played_none until (limit - steps) (play_at t memo rest) none)
    ∙ ap (λ n. record { steps = n; ending = ending_after memo.memo t.current; play = play_at t memo rest }) all

-- a run that was cut short in its next turn
pub cut_run : (until : Option ℕ) (limit : ℕ) (s : Session) (first : Known) (told : List ℕ) (over : Bool) (steps : ℕ) (t : Session) (memo : Known)
    → RunsOn until limit s first told over steps t memo → steps < limit
    → (told2 : List ℕ) (over2 : Bool) (u : Session) → EndsOnce over over2 told2
    → ((rest : List ℕ) → MayCome over2 rest → CutTurn (play_at t memo (told2 ++ rest)) told2 rest u)
    → (rest : List ℕ) → MayCome over2 rest → CutRun until limit (play_at s first ((told ++ told2) ++ rest)) u rest
cut_run until limit s first told over steps t memo h room told2 over2 u once cut rest may = record {
  steps = steps;
  before = play_at t memo (told2 ++ rest);
  told = told2;
  within = room;
  made = ap (λ l. played until limit (play_at s first l)) (append_assoc told told2 rest) ∙ h.runs (told2 ++ rest) (may_all over over2 told2 rest once may);
  input = refl;
  turn = cut rest may;
}

-- a run that was cut short between two turns
pub cut_here : (until : Option ℕ) (limit : ℕ) (s : Session) (first : Known) (told : List ℕ) (over : Bool) (steps : ℕ) (t : Session) (memo : Known)
    → RunsOn until limit s first told over steps t memo → steps < limit
    → (rest : List ℕ) → MayCome over rest → CutRun until limit (play_at s first (told ++ rest)) t rest
cut_here until limit s first told over steps t memo h room rest may = record {
  steps = steps;
  before = play_at t memo rest;
  told = [];
  within = room;
  made = h.runs rest may;
  input = refl;
  turn = inl (sym (input-none t));
}

-- ---- the input

pub still_over : (before after : Bool) (b c : Option (List ℕ)) → EndsWith before after b c → (before ≡ true → IsAtEnd b) → after ≡ true → IsAtEnd c
still_over before after b c ends was is = elim (ends is) [
  | inl same ↦ subst IsAtEnd (sym same.1) (was same.0)
  | inr now ↦ now
]

-- the input is what was told, and then what the reader has left, if that is known
pub whole_input : (a b : Option (List ℕ)) (told : List ℕ) (over : Bool) (P : List ℕ → List ℕ → Type 0) → Consumes a b told → (over ≡ true → IsAtEnd b)
    → ((rest : List ℕ) → MayCome over rest → P (told ++ rest) rest)
    → (input : List ℕ) × (left : List ℕ) × AreBytesOf a input × AreBytesOf b left × P input left
whole_input None None told over P c ends f = (told ++ [], [], tt, tt, f [] (λ _. refl))
whole_input None (Some y) told over P c ends f = (told ++ y, y, tt, refl, f y ends)
whole_input (Some x) None told over P c ends f = absurd c
whole_input (Some x) (Some y) told over P c ends f = (told ++ y, y, c, refl, f y ends)

pub ran_as : (o : Outcome) (steps : ℕ) (why : Ending) (t : Session) (memo : Known) (rest : List ℕ)
    → o ≡ record { steps = steps; ending = why; play = play_at t memo rest }
    → RanAs o (record { steps = steps; ending = why }) t rest
ran_as o steps why t memo rest e = record {
  steps = sym (ap (λ (x : Outcome). x.steps) e);
  ending = sym (ap (λ (x : Outcome). x.ending) e);
  session = sym (ap (λ (x : Outcome). x.play.session) e);
  left = sym (ap (λ (x : Outcome). x.play.input) e);
}

-- ---- the output

pub ends_kept : (a b c : Option (List ℕ)) (text : List ℕ) → Appends a b text → Keeps b c → AppendsFront a c text
ends_kept a b c text h k = (text, [], sym (append-nil text), Appends-kept a b c text h k)
