-- Going back among any other calls.
use Rattle.std.proofs.Common.{◌≡◌, ℕ, ◌+◌, ◌-◌, ◌<◌, ◌≤◌, zero, suc, min, Bool, true, false, cond, List, [], ◌∷◌, ◌++◌, length, take, drop, get_or, Result, Ok, Err, refl, sym, ap, ◌∙◌, subst, arith, nat_le, length-append, length-take, ◌⊎◌, inl, inr}
use Rattle.std.proofs.lemmas.Bool.{cases_lt}
use Rattle.std.proofs.lemmas.Bool.Decides.{nat_tests}
use Rattle.std.proofs.lemmas.List.{drop_all, drop-take, drop-append-le, get_or-drop}
use Rattle.model.specs.State.{State}
use Rattle.model.specs.Step.{step}
use Rattle.model.specs.Event.{event_of}
use Rattle.model.specs.Session.{Session, with_state, keep_last}
use Rattle.model.specs.Run.{run_end, after_step, after_steps, after_steps_by}
use Rattle.model.specs.Back.{back_of, without_last}
use Rattle.model.specs.Breakpoints.{with_breaks, with_watches, break_set, break_cleared, watch_set, watch_cleared}
use Rattle.model.specs.Transcript.{after_event}
use Rattle.model.specs.Calls.{Call, after_answer, after_call, after_calls, Past, past_of, past_with_current, past_after_event, past_if_made, past_after_steps, past_after_back, past_after_call, past_after_calls, IsBefore, GoesBack, BackIsExactAmongCalls}
use Rattle.model.specs.Calls.Call.{happen, run, back, set_break, clear_break, set_watch, clear_watch, view}
use Rattle.model.specs.declared.event.EventFault.{EventFault}
use Rattle.model.specs.declared.session_fault.SessionFault.{SessionFault}
use Rattle.model.specs.declared.session_fault.SessionFault.TheVariants.{NoHistory}
use Rattle.law_sessions.proofs.Backs.{length-keep_last, keep_last-all, keep_last-push, keep_last-keep_last, back_of-held, back_of-refused}

-- What lies behind a session: the history has room for what it holds, and holds the last of them.
pub record IsPast (s : Session) (past : Past) : Type 0 where
  pub within : past.held ≤ length past.states
  pub few : past.held ≤ s.history
  pub kept : s.earlier ≡ keep_last past.held past.states

length-held : (s : Session) (past : Past) → IsPast s past → length s.earlier ≡ past.held
length-held s past h = ap length h.kept ∙ length-keep_last past.held past.states ∙ omega (arith, h.within)

-- ---- events

keep_last-zero : (xs : List State) → keep_last 0 xs ≡ []
keep_last-zero xs = drop_all (length xs - 0) xs (omega arith)

-- one state more, in a history that is full or not
pushed : (limit held : ℕ) (xs : List State) (x : State) → held ≤ length xs → held ≤ limit
    → keep_last limit (keep_last held xs ++ x ∷ []) ≡ keep_last (min limit (held + 1))
    (xs ++ x ∷ [])
pushed zero held xs x within few = keep_last-zero (keep_last held xs ++ x ∷ [])
    ∙ sym (ap (λ n. keep_last n (xs ++ x ∷ [])) none ∙ keep_last-zero (xs ++ x ∷ [])) where
      none : min 0 (held + 1) ≡ 0
      none = omega arith
pushed (suc limit) held xs x within few =
    keep_last-push (suc limit) (keep_last held xs) x (omega arith) ∙ ap (λ l. l ++ x ∷ []) (fewer (cases_lt held (suc limit)))
    ∙ sym (keep_last-push (min (suc limit) (held + 1)) xs x (omega arith)) where
      fewer : (held < suc limit) ⊎ (suc limit ≤ held) → keep_last (suc limit - 1) (keep_last held xs) ≡ keep_last (min (suc limit) (held + 1) - 1) xs
      fewer (inl less) =
          let n : min (suc limit) (held + 1) - 1 ≡ held = omega arith in
          keep_last-all (suc limit - 1) (keep_last held xs) (omega (arith, length-keep_last held xs)) ∙ sym (ap (λ m. keep_last m xs) n)
      fewer (inr full) =
          let n : min (suc limit) (held + 1) - 1 ≡ suc limit - 1 = omega arith in
          keep_last-keep_last (suc limit - 1) held xs (omega arith) ∙ sym (ap (λ m. keep_last m xs) n)

is_left_behind : (s : Session) (past : Past) (state : State) → IsPast s past
    → IsPast (with_state s state) (past_with_current s past)
is_left_behind s past state h = record {
  within = omega (arith, h.within, length-append past.states (s.current ∷ []));
  few = omega arith;
  kept = ap (λ l. keep_last s.history (l ++ s.current ∷ [])) h.kept ∙ pushed s.history past.held past.states s.current h.within h.few;
}

event_past : (s : Session) (past : Past) (r : Result State EventFault) → IsPast s past
    → IsPast (after_event s r) (past_after_event s r past)
event_past s past (Ok state) h = is_left_behind s past state h
event_past s past (Err fault) h = h

step_past : (s : Session) (past : Past) (r : Result State EventFault) (rest : Session → Session)
    (behind : State → Past)
    → IsPast s past → ((state : State) → IsPast (rest (with_state s state)) (behind state))
    → IsPast (after_step s r rest) (past_if_made r past behind)
step_past s past (Ok state) rest behind h on = on state
step_past s past (Err fault) rest behind h on = h

steps_past : (k : ℕ) (s : Session) (past : Past) → IsPast s past → IsPast (after_steps k s)
    (past_after_steps k s past)
unfolding after_steps_by past_after_steps
steps_past zero s past h = h
steps_past (suc k) s past h =
    step_past s past (step s.current) (λ t. after_steps k t) (λ state. past_after_steps k (with_state s state) (past_with_current s past)) h
    (λ state. steps_past k (with_state s state) (past_with_current s past) (is_left_behind s past state h))

-- ---- going back

earlier_back : (k held : ℕ) (xs : List State) → held ≤ length xs → k ≤ held → take (held - k)
    (keep_last held xs) ≡ keep_last (held - k) (take (length xs - k) xs)
earlier_back k held xs within there =
    let n = length xs - held in
    let m : n + (held - k) ≡ length xs - k = omega arith in
    let d : length (take (length xs - k) xs) - (held - k) ≡ n = omega (arith, length-take (length xs - k) xs) in
    sym (drop-take n (held - k) xs) ∙ ap (λ j. drop n (take j xs)) m ∙ sym (ap (λ j. drop j (take (length xs - k) xs)) d)

current_back : (k held : ℕ) (xs : List State) (x : State) → held ≤ length xs → k ≤ held
    → get_or (keep_last held xs ++ x ∷ []) (held - k) x ≡ get_or (xs ++ x ∷ []) (length xs - k) x
current_back k held xs x within there =
    let n = length xs - held in
    let m : n + (held - k) ≡ length xs - k = omega arith in
    ap (λ l. get_or l (held - k) x) (sym (drop-append-le n xs (x ∷ []) (omega arith))) ∙ get_or-drop n (xs ++ x ∷ []) (held - k) x
    ∙ ap (λ j. get_or (xs ++ x ∷ []) j x) m

is_before : (k : ℕ) (s : Session) (past : Past) → IsPast s past → k ≤ past.held
    → IsBefore k s past (without_last k s)
unfolding without_last
is_before k s past h there =
    let size = length-held s past h in record {
      current = ap (λ j. get_or (s.earlier ++ s.current ∷ []) (j - k) s.current) size ∙ ap (λ l. get_or (l ++ s.current ∷ []) (past.held - k) s.current) h.kept
          ∙ current_back k past.held past.states s.current h.within there;
      earlier = ap (λ j. take (j - k) s.earlier) size ∙ ap (take (past.held - k)) h.kept ∙ earlier_back k past.held past.states h.within there;
      history = refl;
      breaks = refl;
      watches = refl;
    }

pub goes_back : (k : ℕ) (s : Session) (past : Past) → IsPast s past → GoesBack k s past
goes_back k s past h =
    let size = length-held s past h in (
      λ there. (without_last k s, back_of-held k s (omega (arith, size, there)), is_before k s past h there),
      λ more. back_of-refused k s (omega (arith, size, more)) ∙ ap (λ n. Err (NoHistory n)) size,
    )

back_past : (k : ℕ) (s : Session) (past : Past) → IsPast s past
    → IsPast (after_answer s (back_of k s)) (past_after_back k past)
unfolding past_after_back
back_past k s past h = elim (cases_lt past.held k) [
  | inl more ↦
      let e : nat_le k past.held ≡ false = grind (arith, nat_tests) in
      rw (e, (goes_back k s past h).1 more) h
  | inr there ↦
      let e : nat_le k past.held ≡ true = grind (arith, nat_tests) in
      let t = (goes_back k s past h).0 there in
      let before = t.2 in
      rw (e, t.1) (record {
        within = omega (arith, h.within, length-take (length past.states - k) past.states);
        few = subst (λ n. past.held - k ≤ n) (sym before.history) (omega (arith, h.few));
        kept = before.earlier;
      })
]

-- ---- any call

breaks_past : (s : Session) (past : Past) (r : Result (List ℕ) SessionFault) → IsPast s past
    → IsPast (after_answer s (with_breaks s r)) past
breaks_past s past (Ok table) h = record { within = h.within; few = h.few; kept = h.kept }
breaks_past s past (Err fault) h = h

watches_past : (s : Session) (past : Past) (r : Result (List ℕ) SessionFault) → IsPast s past
    → IsPast (after_answer s (with_watches s r)) past
watches_past s past (Ok table) h = record { within = h.within; few = h.few; kept = h.kept }
watches_past s past (Err fault) h = h

watch_past : (s : Session) (past : Past) (b : Bool) (f : SessionFault)
    (r : Result (List ℕ) SessionFault) → IsPast s past
    → IsPast (after_answer s (cond b (Err f) (with_watches s r))) past
watch_past s past true f r h = h
watch_past s past false f r h = watches_past s past r h

call_past : (call : Call) (s : Session) (past : Past) → IsPast s past → IsPast (after_call s call)
    (past_after_call s call past)
unfolding after_call past_after_call break_set break_cleared watch_set watch_cleared
call_past (happen event) s past h = event_past s past (event_of s.current event) h
call_past (run n) s past h = steps_past (run_end n s).did s past h
call_past (back k) s past h = back_past k s past h
call_past (set_break address) s past h = breaks_past s past _ h
call_past (clear_break address) s past h = breaks_past s past _ h
call_past (set_watch address) s past h = watch_past s past _ _ _ h
call_past (clear_watch address) s past h = watches_past s past _ h
call_past view s past h = h

calls_past : (calls : List Call) (s : Session) (past : Past) → IsPast s past
    → IsPast (after_calls s calls) (past_after_calls s calls past)
calls_past [] s past h = h
calls_past (call ∷ calls) s past h = calls_past calls (after_call s call) (past_after_call s call past) (call_past call s past h)

pub back_is_exact_among_calls : BackIsExactAmongCalls
back_is_exact_among_calls s calls k few =
    goes_back k (after_calls s calls) (past_after_calls s calls (past_of s))
    (calls_past calls s (past_of s) (record { within = omega arith; few = few; kept = sym (keep_last-all (length s.earlier) s.earlier (omega arith)) }))
