-- Sessions since the start of their machine.
use Rattle.std.proofs.Common.{◌≡◌, ℕ, zero, suc, ◌+◌, ◌-◌, ◌%◌, ◌<◌, ◌≤◌, List, [], ◌∷◌, ◌++◌, length, take, drop, get_or, refl, sym, ap, ◌∙◌, subst, arith, length-append, length-drop, Option, Result, Ok, Err}
use Rattle.std.specs.Prelude.{◌==◌, ⊤, Bool, true, false, if◌then◌else◌, IfErr, OnOk}
use Rattle.std.proofs.Math.Nat.{mod-add-mod, mod_self, mod-lt}
use Rattle.std.proofs.lemmas.Bool.{le-leb}
use Rattle.model.specs.Calls.{after_answer}
use Rattle.model.specs.Back.{back_of, number_back, states, without_last}
use Rattle.model.specs.Breakpoints.{break_cleared, break_set, table_with, table_without, with_breaks}
use Rattle.model.specs.Event.{event_of, start}
use Rattle.model.specs.Run.{OneStep, after_run, after_step, after_steps_by, run_end}
use Rattle.model.specs.Session.{Session, keep_last, with_state}
use Rattle.model.specs.State.{Map, State}
use Rattle.model.specs.Step.{step}
use Rattle.model.specs.declared.event.Event.{Event}
use Rattle.model.specs.declared.event.Event.TheVariants as event
use Rattle.model.specs.declared.event.EventFault.{EventFault}
use Rattle.model.specs.declared.run_end.RunEnd.{RunEnd}
use Rattle.model.specs.declared.session_fault.SessionFault.{SessionFault}
use Rattle.rig.specs.Subroutine.{after_event, after_events, call_of, called, if_accepted, jsr_events, return_address, run_by, run_to_of, without_break}
use Rattle.t65_runner.specs.Interrupts.{entry_events, interrupted}
use Rattle.t65_reader.specs.declared.row.Signal.{Signal}
use Rattle.t65_reader.specs.declared.row.Signal.TheVariants.{Irq, Nmi}
use Rattle.t65_runner.specs.Requests.{after_arrival, arrival_events}
use Rattle.t65_runner.specs.Start.{IsSince, first_of, fresh}

-- ---- one more state

first_pushed : (earlier : List State) (now next : State) → first_of (earlier ++ now ∷ []) next ≡ first_of earlier now
first_pushed [] now next = refl
first_pushed (s ∷ earlier) now next = refl

pushed : (earlier : List State) (now : State) → length (earlier ++ now ∷ []) ≡ length earlier + 1
pushed earlier now = length-append earlier (now ∷ [])

kept : (h : ℕ) (earlier : List State) (now : State) → length (keep_last h (earlier ++ now ∷ [])) ≡ length earlier + 1 - (length earlier + 1 - h)
kept h earlier now = length-drop (length (earlier ++ now ∷ []) - h) (earlier ++ now ∷ []) ∙ ap (λ n. n - (n - h)) (pushed earlier now)

all_kept : (h : ℕ) (earlier : List State) (now : State) → length earlier + 1 ≤ h → keep_last h (earlier ++ now ∷ []) ≡ earlier ++ now ∷ []
all_kept h earlier now few =
    let none : length (earlier ++ now ∷ []) - h ≡ 0 = omega (arith, pushed earlier now) in
    ap (λ n. drop n (earlier ++ now ∷ [])) none

pub since_state : (s : State) (now : Session) (state : State) → IsSince s now → IsSince s (with_state now state)
since_state s now state since =
    let count = kept now.history now.earlier now.current in
    let room = since.history in
    record {
      history = since.history;
      within = omega (arith, count, room);
      first = λ few.
          let fits : length now.earlier + 1 ≤ now.history = omega (arith, few, count, room) in
          ap (λ (x : List State). first_of x state) (all_kept now.history now.earlier now.current fits)
          ∙ (first_pushed now.earlier now.current state ∙ since.first (omega (arith, fits, room)));
      number = λ few.
          let fits : length now.earlier + 1 ≤ now.history = omega (arith, few, count, room) in
          let long : length (keep_last now.history (now.earlier ++ now.current ∷ [])) ≡ length now.earlier + 1 =
          ap length (all_kept now.history now.earlier now.current fits) ∙ pushed now.earlier now.current in
          ap (λ n. (n + 1) % 1024) (since.number (omega (arith, fits, room)))
          ∙ (mod-add-mod (length now.earlier) 1024 1 ∙ ap (λ n. n % 1024) (sym long));
      replayed = since.replayed;
      watches = since.watches;
    }

-- ---- events, steps and breakpoints

since_result : (s : State) (now : Session) (result : Result State EventFault) → IsSince s now → IsSince s (if_accepted now result)
since_result s now (Ok state) since = since_state s now state since
since_result s now (Err fault) since = since

since_event : (s : State) (now : Session) (event : Event) → IsSince s now → IsSince s (after_event now event)
unfolding after_event
since_event s now event since = since_result s now (event_of now.current event) since

since_events : (s : State) (now : Session) (events : List Event) → IsSince s now → IsSince s (after_events now events)
since_events s now [] since = since
since_events s now (event ∷ events) since = since_events s (after_event now event) events (since_event s now event since)

since_step : (s : State) (now : Session) (result : Result State EventFault) (next : Session → Session)
    → ((t : Session) → IsSince s t → IsSince s (next t)) → IsSince s now
    → IsSince s (after_step now result next)
since_step s now (Ok state) next on since = on (with_state now state) (since_state s now state since)
since_step s now (Err fault) next on since = since

since_steps : (s : State) (one : OneStep) (k : ℕ) (now : Session) → IsSince s now → IsSince s (after_steps_by one k now)
unfolding after_steps_by
since_steps s one zero now since = since
since_steps s one (suc k) now since = since_step s now (one now.current) (λ t. after_steps_by one k t) (λ t h. since_steps s one k t h) since

since_breaks : (s : State) (now : Session) (breaks : List ℕ) → IsSince s now → IsSince s (record now { breaks = breaks })
since_breaks s now breaks since = record {
  history = since.history;
  within = since.within;
  first = since.first;
  number = since.number;
  replayed = since.replayed;
  watches = since.watches;
}

since_table : (s : State) (now : Session) (table : Result (List ℕ) SessionFault) → IsSince s now → IsSince s (after_answer now (with_breaks now table))
since_table s now (Ok breaks) since = since_breaks s now breaks since
since_table s now (Err fault) since = since

since_without : (s : State) (address : ℕ) (now : Session) → IsSince s now → IsSince s (without_break address now)
unfolding without_break break_cleared
since_without s address now since = since_table s now (table_without now.breaks address) since

-- ---- the breakpoints stay

breaks_result : (now : Session) (result : Result State EventFault) → (if_accepted now result).breaks ≡ now.breaks
breaks_result now (Ok state) = refl
breaks_result now (Err fault) = refl

breaks_event : (now : Session) (event : Event) → (after_event now event).breaks ≡ now.breaks
unfolding after_event
breaks_event now event = breaks_result now (event_of now.current event)

breaks_events : (now : Session) (events : List Event) → (after_events now events).breaks ≡ now.breaks
breaks_events now [] = refl
breaks_events now (event ∷ events) = breaks_events (after_event now event) events ∙ breaks_event now event

breaks_step : (now : Session) (result : Result State EventFault) (next : Session → Session) → ((t : Session) → (next t).breaks ≡ t.breaks)
    → (after_step now result next).breaks ≡ now.breaks
breaks_step now (Ok state) next on = on (with_state now state)
breaks_step now (Err fault) next on = refl

breaks_steps : (one : OneStep) (k : ℕ) (now : Session) → (after_steps_by one k now).breaks ≡ now.breaks
unfolding after_steps_by
breaks_steps one zero now = refl
breaks_steps one (suc k) now = breaks_step now (one now.current) (λ t. after_steps_by one k t) (λ t. breaks_steps one k t)

-- ---- a call

-- the session after a call that is made with no breakpoint set
abbrev after_call : ℕ → ℕ → Session → Session
after_call address limit s = without_break return_address (after_run limit (called address (record s { breaks = return_address ∷ [] })))

set_alone : (address : ℕ) (s : Session) → s.breaks ≡ [] → break_set address s ≡ Ok (record s { breaks = address ∷ [] })
unfolding break_set table_with
set_alone address s none = rw none refl

call_alone : (address limit : ℕ) (s : Session) → s.breaks ≡ []
    → call_of address limit s ≡ Ok (run_end limit (called address (record s { breaks = return_address ∷ [] })), after_call address limit s)
unfolding call_of
call_alone address limit s none = ap (λ (x : Result Session SessionFault). run_by return_address limit (called address) s x) (set_alone return_address s none)

abbrev session_of : Result (RunEnd × Session) SessionFault → Session → Session
session_of (Ok called) s = called.1
session_of (Err fault) s = s

called_is : (address limit : ℕ) (s t : Session) (end : RunEnd) → s.breaks ≡ [] → call_of address limit s ≡ Ok (end, t) → t ≡ after_call address limit s
called_is address limit s t end none h = ap (λ (x : Result (RunEnd × Session) SessionFault). session_of x s) (sym h ∙ call_alone address limit s none)

since_called : (s : State) (address : ℕ) (now : Session) → IsSince s now → IsSince s (called address now)
unfolding called
since_called s address now since = since_events s now (jsr_events address now.current.regs.s) since

breaks_called : (address : ℕ) (now : Session) → (called address now).breaks ≡ now.breaks
unfolding called
breaks_called address now = breaks_events now (jsr_events address now.current.regs.s)

pub since_call : (s : State) (address limit : ℕ) (now t : Session) (end : RunEnd) → now.breaks ≡ [] → call_of address limit now ≡ Ok (end, t)
    → IsSince s now → IsSince s t
since_call s address limit now t end none h since =
    let ready = called address (record now { breaks = return_address ∷ [] }) in
    subst (IsSince s) (sym (called_is address limit now t end none h))
    (since_without s return_address (after_run limit ready) (since_steps s step (run_end limit ready).did ready
    (since_called s address (record now { breaks = return_address ∷ [] }) (since_breaks s now (return_address ∷ []) since))))

cleared_alone : (address : ℕ) (now : Session) → now.breaks ≡ 65535 ∷ [] → (without_break 65535 now).breaks ≡ []
unfolding without_break break_cleared table_without
cleared_alone address now h = rw h refl

pub breaks_call : (address limit : ℕ) (now t : Session) (end : RunEnd) → now.breaks ≡ [] → call_of address limit now ≡ Ok (end, t) → t.breaks ≡ []
breaks_call address limit now t end none h =
    let ready = called address (record now { breaks = return_address ∷ [] }) in
    ap (λ (x : Session). x.breaks) (called_is address limit now t end none h)
    ∙ cleared_alone address (after_run limit ready) (breaks_steps step (run_end limit ready).did ready
    ∙ breaks_called address (record now { breaks = return_address ∷ [] }))

-- ---- an interrupt

pub since_interrupted : (s : State) (address : ℕ) (now : Session) → IsSince s now → IsSince s (interrupted address now)
unfolding interrupted
since_interrupted s address now since = since_events s now (entry_events now.current.bus.map.profile address now.current.regs) since

pub breaks_interrupted : (address : ℕ) (now : Session) → (interrupted address now).breaks ≡ now.breaks
unfolding interrupted
breaks_interrupted address now = breaks_events now (entry_events now.current.bus.map.profile address now.current.regs)

-- an interrupt comes into a call
pub since_arrival : (s : State) (signal : Signal) (now : Session) → IsSince s now → IsSince s (after_arrival signal now)
unfolding after_arrival
since_arrival s signal now since = since_events s now (arrival_events signal) since

pub arrived_irq : (s a b t : Session) → a ≡ after_event s (event.Irq true) → b ≡ after_event a event.Step → t ≡ after_event b (event.Irq false)
    → t ≡ after_arrival Irq s
unfolding after_arrival
arrived_irq s a b t e1 e2 e3 = rw (e3, e2, e1) refl

pub arrived_nmi : (s a t : Session) → a ≡ after_event s event.Nmi → t ≡ after_event a event.Step → t ≡ after_arrival Nmi s
unfolding after_arrival
arrived_nmi s a t e1 e2 = rw (e2, e1) refl

pub breaks_arrival : (signal : Signal) (now : Session) → (after_arrival signal now).breaks ≡ now.breaks
unfolding after_arrival
breaks_arrival signal now = breaks_events now (arrival_events signal)

-- the session after a run to the return address that is made with no breakpoint set
abbrev after_run_back : ℕ → Session → Session
after_run_back limit s = without_break return_address (after_run limit (record s { breaks = return_address ∷ [] }))

run_alone : (limit : ℕ) (s : Session) → s.breaks ≡ [] → run_to_of return_address limit s
    ≡ Ok (run_end limit (record s { breaks = return_address ∷ [] }), after_run_back limit s)
unfolding run_to_of
run_alone limit s none = ap (λ (x : Result Session SessionFault). run_by return_address limit (λ t. t) s x) (set_alone return_address s none)

run_is : (limit : ℕ) (s t : Session) (end : RunEnd) → s.breaks ≡ [] → run_to_of return_address limit s ≡ Ok (end, t) → t ≡ after_run_back limit s
run_is limit s t end none h = ap (λ (x : Result (RunEnd × Session) SessionFault). session_of x s) (sym h ∙ run_alone limit s none)

pub since_run : (s : State) (limit : ℕ) (now t : Session) (end : RunEnd) → now.breaks ≡ [] → run_to_of return_address limit now ≡ Ok (end, t)
    → IsSince s now → IsSince s t
since_run s limit now t end none h since =
    let ready = record now { breaks = return_address ∷ [] } in
    subst (IsSince s) (sym (run_is limit now t end none h))
    (since_without s return_address (after_run limit ready) (since_steps s step (run_end limit ready).did ready
    (since_breaks s now (return_address ∷ []) since)))

pub breaks_run : (limit : ℕ) (now t : Session) (end : RunEnd) → now.breaks ≡ [] → run_to_of return_address limit now ≡ Ok (end, t) → t.breaks ≡ []
breaks_run limit now t end none h =
    let ready = record now { breaks = return_address ∷ [] } in
    ap (λ (x : Session). x.breaks) (run_is limit now t end none h)
    ∙ cleared_alone return_address (after_run limit ready) (breaks_steps step (run_end limit ready).did ready)

-- ---- back to the start

abbrev made : List State → State → ℕ → List ℕ → List ℕ → ℕ → ℕ → Session
made earlier current history breaks watches number replayed = record {
  earlier = earlier;
  current = current;
  history = history;
  breaks = breaks;
  watches = watches;
  number = number;
  replayed = replayed;
}

pub since_fresh : (map : Map) (image : List (Option ℕ)) → IsSince (start map image) (fresh map image)
since_fresh map image = record {
  history = refl;
  within = omega arith;
  first = λ few. refl;
  number = λ few. refl;
  replayed = refl;
  watches = refl;
}

first_state : (earlier : List State) (now : State) → get_or (earlier ++ now ∷ []) 0 now ≡ first_of earlier now
first_state [] now = refl
first_state (s ∷ earlier) now = refl

number_zero : (k : ℕ) → number_back k (k % 1024) ≡ 0
number_zero k =
    let below : k % 1024 < 1024 = mod-lt k (omega arith) in
    let whole : k % 1024 + (1024 - k % 1024) ≡ 1024 = omega arith in
    ap (λ n. n % 1024) whole ∙ mod_self 1024

pub back_to_start : (map : Map) (image : List (Option ℕ)) (now : Session) → IsSince (start map image) now → now.breaks ≡ [] → length now.earlier < 65536
    → without_last (length now.earlier) now ≡ fresh map image
unfolding without_last
back_to_start map image now since none few =
    let k = length now.earlier in
    let zero_left : k - k ≡ 0 = omega arith in
    let number : number_back k now.number ≡ 0 = ap (number_back k) (since.number few) ∙ number_zero k in
    let first : get_or (states now) (k - k) now.current ≡ start map image =
    ap (λ n. get_or (states now) n now.current) zero_left ∙ (first_state now.earlier now.current ∙ since.first few) in
    let emptied : take (k - k) now.earlier ≡ [] = ap (λ n. take n now.earlier) zero_left in
    let replayed : (if k == 0 then now.replayed else number_back k now.number) ≡ 0 = chosen (k == 0) since.replayed number in
    same_record since.history none since.watches emptied first number replayed
  where
    chosen : (t : Bool) {a b : ℕ} → a ≡ 0 → b ≡ 0 → (if t then a else b) ≡ 0
    chosen true a b = a
    chosen false a b = b

    same_record : {earlier : List State} {current : State} {history number replayed : ℕ} {breaks watches : List ℕ}
        → history ≡ 65536 → breaks ≡ [] → watches ≡ [] → earlier ≡ [] → current ≡ start map image → number ≡ 0 → replayed ≡ 0
        → made earlier current history breaks watches number replayed ≡ fresh map image
    same_record h b w e c n r = rw (h, b, w, e, c, n, r) refl

-- what a session answers to an event
pub since_answer : (s : State) (now next : Session) (event : Event) (result : Result ⊤ EventFault) → IsSince s now
    → OnOk result ((state : State) × (event_of now.current event ≡ Ok state) × (next ≡ with_state now state))
    → IfErr result (λ fault. (event_of now.current event ≡ Err fault) × (next ≡ now)) → IsSince s next
since_answer s now next event (Ok done) since ok err = subst (IsSince s) (sym ok.2) (since_state s now ok.0 since)
since_answer s now next event (Err fault) since ok err = subst (IsSince s) (sym err.1) since

abbrev next_in : Session → Result Session SessionFault → Session
next_in now (Ok next) = next
next_in now (Err fault) = now

back_all : (now : Session) → back_of (length now.earlier) now ≡ Ok (without_last (length now.earlier) now)
unfolding back_of
back_all now = rw (le-leb (length now.earlier) (length now.earlier) (omega arith)) refl

back_held : (k : ℕ) (now next : Session) → k ≡ length now.earlier → back_of k now ≡ Ok next → next ≡ without_last (length now.earlier) now
back_held k now next same h = ap (next_in now) (sym h ∙ (ap (λ n. back_of n now) same ∙ back_all now))

pub restored : (map : Map) (image : List (Option ℕ)) (now next : Session) (k : ℕ) → IsSince (start map image) now → now.breaks ≡ []
    → k ≡ length now.earlier → k < 65536 → back_of k now ≡ Ok next → next ≡ fresh map image
restored map image now next k since none same few ok = back_held k now next same ok ∙ back_to_start map image now since none (omega arith)
