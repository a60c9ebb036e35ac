-- All states of a session are states with one map.
use Rattle.std.proofs.Common.{◌≡◌, ℕ, ◌-◌, Bool, true, false, cond, List, [], ◌∷◌, ◌++◌, length, take, get_or, Result, Ok, Err, refl, sym, ◌∙◌, subst, zero, suc}
use Rattle.std.specs.Prelude.{nat_le}
use Rattle.std.specs.List.{All}
use Rattle.std.proofs.lemmas.List.Elements.{All-nil, All-cons, All-head, All-tail, All-push, All-take, All-drop}
use Rattle.model.specs.State.{Map, State, IsState}
use Rattle.model.specs.Session.{Session, new_session, with_state, keep_last}
use Rattle.model.specs.Back.{Accepts, states, without_last, back_of}
use Rattle.model.specs.Event.{event_of}
use Rattle.model.specs.Step.{step}
use Rattle.model.specs.Run.{run_end, after_step, after_steps, after_steps_by}
use Rattle.model.specs.Breakpoints.{with_breaks, with_watches, break_set, break_cleared, watch_set, watch_cleared}
use Rattle.model.specs.Transcript.{after_event}
use Rattle.model.specs.Calls.{Call, after_answer, after_call, after_calls}
use Rattle.model.specs.Calls.Call.{happen, run, back, set_break, clear_break, set_watch, clear_watch, view}
use Rattle.model.specs.declared.event.Event.{Event}
use Rattle.model.specs.declared.event.Event.TheVariants.{Step}
use Rattle.model.specs.declared.event.EventFault.{EventFault}
use Rattle.model.specs.declared.session_fault.SessionFault.{SessionFault}
use Rattle.model.specs.declared.session_fault.SessionFault.TheVariants.{NoHistory}
use Rattle.law_states.specs.Law.{IsCall, IsEvent, HoldsStates, SessionsHoldStates}
use Rattle.law_states.proofs.Kept.{events_keep_states}

abbrev IsWith : Map → State → Type 0
IsWith map state = IsState state × (state.bus.map ≡ map)

all_append_right : (P : State → Type 0) (xs ys : List State) → All P (xs ++ ys) → All P ys
all_append_right P [] ys h = h
all_append_right P (x ∷ xs) ys h = all_append_right P xs ys (All-tail P x (xs ++ ys) h)

all_append_left : (P : State → Type 0) (xs ys : List State) → All P (xs ++ ys) → All P xs
all_append_left P [] ys h = All-nil P
all_append_left P (x ∷ xs) ys h = All-cons P x xs (All-head P x (xs ++ ys) h) (all_append_left P xs ys (All-tail P x (xs ++ ys) h))

all_get : (P : State → Type 0) (xs : List State) (k : ℕ) (d : State) → All P xs → P d
    → P (get_or xs k d)
all_get P [] k d h e = e
all_get P (x ∷ xs) zero d h e = All-head P x xs h
all_get P (x ∷ xs) (suc k) d h e = all_get P xs k d (All-tail P x xs h) e

current_is : (map : Map) (s : Session) → HoldsStates map s → IsWith map s.current
current_is map s h = All-head (IsWith map) s.current [] (all_append_right (IsWith map) s.earlier (s.current ∷ []) h)

fresh_holds : (history : ℕ) (state : State) → IsState state
    → HoldsStates state.bus.map (new_session history state)
fresh_holds history state h = All-cons (IsWith state.bus.map) state [] (h, refl) (All-nil (IsWith state.bus.map))

appended_holds : (map : Map) (s : Session) (state : State) → HoldsStates map s → IsWith map state
    → HoldsStates map (with_state s state)
appended_holds map s state h k =
    let all = s.earlier ++ s.current ∷ [] in
    All-push (IsWith map) (keep_last s.history all) state (All-drop (IsWith map) (length all - s.history) all h) k

accepted_holds : (map : Map) (events : List Event) (s t : Session) → HoldsStates map s
    → All IsEvent events → Accepts s events t → HoldsStates map t
accepted_holds map [] s t h k a = subst (HoldsStates map) (sym a) h
accepted_holds map (e ∷ es) s t h k a =
    let now = current_is map s h in
    let next = events_keep_states s.current a.0 e now.0 (All-head IsEvent e es k) a.1 in
    accepted_holds map es (with_state s a.0) t (appended_holds map s a.0 h (next.0, next.1 ∙ now.1)) (All-tail IsEvent e es k) a.2

gone_back_holds : (map : Map) (k : ℕ) (s : Session) → HoldsStates map s
    → HoldsStates map (without_last k s)
unfolding without_last
gone_back_holds map k s h =
    let left = length s.earlier - k in
    All-push (IsWith map) (take left s.earlier) (get_or (states s) left s.current)
    (All-take (IsWith map) left s.earlier (all_append_left (IsWith map) s.earlier (s.current ∷ []) h))
    (all_get (IsWith map) (states s) left s.current h (current_is map s h))

back_by : (map : Map) (k : ℕ) (s t : Session) (there : Bool) → HoldsStates map s
    → cond there (Ok (without_last k s)) (Err (NoHistory (length s.earlier))) ≡ Ok t
    → HoldsStates map t
back_by map k s t true h e = let same : without_last k s ≡ t = cc in subst (HoldsStates map) same (gone_back_holds map k s h)
back_by map k s t false h e = cc

back_holds : (map : Map) (k : ℕ) (s t : Session) → HoldsStates map s → back_of k s ≡ Ok t
    → HoldsStates map t
unfolding back_of
back_holds map k s t h e = back_by map k s t (nat_le k (length s.earlier)) h e

-- ---- any call

event_holds : (map : Map) (s : Session) (event : Event) (r : Result State EventFault)
    → HoldsStates map s → IsEvent event → event_of s.current event ≡ r
    → HoldsStates map (after_event s r)
event_holds map s event (Ok state) h is e =
    let now = current_is map s h in
    let next = events_keep_states s.current state event now.0 is e in
    appended_holds map s state h (next.0, next.1 ∙ now.1)
event_holds map s event (Err fault) h is e = h

step_holds : (map : Map) (s : Session) (r : Result State EventFault) (rest : Session → Session)
    → HoldsStates map s → event_of s.current Step ≡ r
    → ((t : Session) → HoldsStates map t → HoldsStates map (rest t))
    → HoldsStates map (after_step s r rest)
step_holds map s (Ok state) rest h e on = on (with_state s state) (event_holds map s Step (Ok state) h tt e)
step_holds map s (Err fault) rest h e on = h

is_step : (state : State) → event_of state Step ≡ step state
unfolding event_of
is_step state = refl

steps_hold : (map : Map) (k : ℕ) (s : Session) → HoldsStates map s
    → HoldsStates map (after_steps k s)
unfolding after_steps_by
steps_hold map zero s h = h
steps_hold map (suc k) s h = step_holds map s (step s.current) (λ t. after_steps k t) h (is_step s.current) (λ t held. steps_hold map k t held)

answer_holds : (map : Map) (s : Session) (r : Result Session SessionFault) → HoldsStates map s
    → ((t : Session) → r ≡ Ok t → HoldsStates map t) → HoldsStates map (after_answer s r)
answer_holds map s (Ok t) h on = on t refl
answer_holds map s (Err fault) h on = h

breaks_hold : (map : Map) (s : Session) (r : Result (List ℕ) SessionFault) → HoldsStates map s
    → HoldsStates map (after_answer s (with_breaks s r))
breaks_hold map s (Ok table) h = h
breaks_hold map s (Err fault) h = h

watches_hold : (map : Map) (s : Session) (r : Result (List ℕ) SessionFault) → HoldsStates map s
    → HoldsStates map (after_answer s (with_watches s r))
watches_hold map s (Ok table) h = h
watches_hold map s (Err fault) h = h

watch_holds : (map : Map) (s : Session) (b : Bool) (f : SessionFault)
    (r : Result (List ℕ) SessionFault) → HoldsStates map s
    → HoldsStates map (after_answer s (cond b (Err f) (with_watches s r)))
watch_holds map s true f r h = h
watch_holds map s false f r h = watches_hold map s r h

call_holds : (map : Map) (s : Session) (call : Call) → HoldsStates map s → IsCall call
    → HoldsStates map (after_call s call)
unfolding after_call break_set break_cleared watch_set watch_cleared
call_holds map s (happen event) h is = event_holds map s event (event_of s.current event) h is refl
call_holds map s (run n) h is = steps_hold map (run_end n s).did s h
call_holds map s (back k) h is = answer_holds map s (back_of k s) h (λ t e. back_holds map k s t h e)
call_holds map s (set_break address) h is = breaks_hold map s _ h
call_holds map s (clear_break address) h is = breaks_hold map s _ h
call_holds map s (set_watch address) h is = watch_holds map s _ _ _ h
call_holds map s (clear_watch address) h is = watches_hold map s _ h
call_holds map s view h is = h

calls_hold : (map : Map) (calls : List Call) (s : Session) → HoldsStates map s → All IsCall calls
    → HoldsStates map (after_calls s calls)
calls_hold map [] s h all = h
calls_hold map (call ∷ calls) s h all = calls_hold map calls (after_call s call) (call_holds map s call h (All-head IsCall call calls all))
    (All-tail IsCall call calls all)

pub sessions_hold_states : SessionsHoldStates
sessions_hold_states = (fresh_holds, λ map s t events h k a. accepted_holds map events s t h k a, back_holds, λ map s calls h all. calls_hold map calls s h all)
