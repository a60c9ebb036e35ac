-- Events that were undone, made again, lead to the states that were there.
use Rattle.std.proofs.Common.{◌≡◌, ℕ, ◌+◌, ◌-◌, ◌<◌, ◌≤◌, suc, List, [], ◌∷◌, ◌++◌, length, take, get_or, Ok, Err, Result, Bool, true, false, cond, nat_le, refl, sym, ap, ◌∙◌, arith, length-append}
use Rattle.std.proofs.lemmas.List.{take_at, get_or_at}
use Rattle.model.specs.State.{State}
use Rattle.model.specs.Event.{event_of}
use Rattle.model.specs.Session.{Session, with_state, keep_last}
use Rattle.model.specs.declared.event.Event.{Event}
use Rattle.model.specs.declared.session_fault.SessionFault.{SessionFault}
use Rattle.model.specs.declared.session_fault.SessionFault.TheVariants.{NoHistory}
use Rattle.model.specs.Back.{Accepts, back_of, states, with_last_earlier, without_last}
use Rattle.law_sessions.proofs.Backs.{back_is_exact, length-keep_last, keep_last-all, keep_last-push, keep_last-keep_last, back_of-held}
use Rattle.mon_runs.specs.Recall.{made_again, if_made, RedoIsExact}

last_is : (xs ys : List State) (x y : State) → xs ++ x ∷ [] ≡ ys ++ y ∷ [] → x ≡ y
last_is xs ys x y h =
    let n : length xs ≡ length ys = omega (arith, ap length h, length-append xs (x ∷ []), length-append ys (y ∷ [])) in
    sym (get_or_at xs x [] x (length xs) refl) ∙ ap (λ l. get_or l (length xs) x) h ∙ get_or_at ys y [] x (length xs) (sym n)

front_is : (xs ys : List State) (x y : State) → xs ++ x ∷ [] ≡ ys ++ y ∷ [] → xs ≡ ys
front_is xs ys x y h =
    let n : length xs ≡ length ys = omega (arith, ap length h, length-append xs (x ∷ []), length-append ys (y ∷ [])) in
    sym (take_at xs (x ∷ []) (length xs) refl) ∙ ap (take (length xs)) h ∙ take_at ys (y ∷ []) (length xs) (sym n)

-- A session that has the current state of another, and of its earlier states the last n.
record Follows (n : ℕ) (s u : Session) : Type 0 where
  pub history : u.history ≡ s.history
  pub current : u.current ≡ s.current
  pub earlier : u.earlier ≡ keep_last n s.earlier

-- An event keeps that, with one state more.
follows-next : (n : ℕ) (s u : Session) (t : State) → suc n ≤ s.history → Follows n s u
    → Follows (suc n) (with_state s t) (with_state u t)
follows-next n s u t room f =
    let pushed = s.earlier ++ s.current ∷ [] in
    let short : length (u.earlier ++ u.current ∷ []) ≤ s.history =
    omega (arith, length-append u.earlier (u.current ∷ []), ap length f.earlier, length-keep_last n s.earlier) in
    let whole : keep_last s.history (u.earlier ++ u.current ∷ []) ≡ u.earlier ++ u.current ∷ [] = keep_last-all s.history (u.earlier ++ u.current ∷ []) short in
    let same : u.earlier ++ u.current ∷ [] ≡ keep_last n s.earlier ++ s.current ∷ [] = λ i. f.earlier i ++ f.current i ∷ [] in
    let one : suc n - 1 ≡ n = omega arith in
    let more : keep_last (suc n) pushed ≡ keep_last n s.earlier ++ s.current ∷ [] =
    keep_last-push (suc n) s.earlier s.current (omega arith) ∙ ap (λ m. keep_last m s.earlier ++ s.current ∷ []) one in
    let kept : keep_last (suc n) (keep_last s.history pushed) ≡ keep_last (suc n) pushed = keep_last-keep_last (suc n) s.history pushed room in
    record {
      history = f.history;
      current = refl;
      earlier = ap (λ h. keep_last h (u.earlier ++ u.current ∷ [])) f.history ∙ whole ∙ same ∙ sym more ∙ sym kept;
    }

-- The same events are accepted, and lead to the same states.
again : (events : List Event) (n : ℕ) (s t u : Session) → length s.earlier ≤ s.history
    → n + length events ≡ s.history → Accepts s events t → Follows n s u
    → ((made_again events u).0 ≡ length events) × (states (made_again events u).1 ≡ states t)
unfolding made_again
again [] n s t u short full a f =
    let all : keep_last n s.earlier ≡ s.earlier = keep_last-all n s.earlier (omega arith) in
    (refl, (λ i. (f.earlier ∙ all) i ++ f.current i ∷ []) ∙ ap states (sym a))
again (e ∷ es) n s t u short full a f =
    let next = with_state s a.0 in
    let made : event_of u.current e ≡ Ok a.0 = ap (λ c. event_of c e) f.current ∙ a.1 in
    let follows : Follows (suc n) next (with_state u a.0) = follows-next n s u a.0 (omega arith) f in
    let small : length next.earlier ≤ next.history = omega (arith, length-keep_last s.history (s.earlier ++ s.current ∷ [])) in
    let sum : suc n + length es ≡ next.history = omega arith in
    let rest = again es (suc n) next t (with_state u a.0) small sum a.2 follows in
    let first : made_again (e ∷ es) u ≡ if_made u (Ok a.0) (λ x. made_again es x) = ap (λ r. if_made u r (λ x. made_again es x)) made in
    (ap (λ p. p.0) first ∙ ap suc rest.0, ap (λ p. states p.1) first ∙ rest.1)

-- Accepted events keep the size of the history.
same_history : (events : List Event) (s t : Session) → Accepts s events t → t.history ≡ s.history
same_history [] s t a = ap (λ (x : Session). x.history) a
same_history (e ∷ es) s t a = same_history es (with_state s a.0) t a.2

-- Going back keeps it too.
gone-history : (b : Bool) (k : ℕ) (t u : Session) (f : SessionFault)
    → cond b (Ok (without_last k t)) (Err f) ≡ Ok u → u.history ≡ t.history
unfolding without_last
gone-history true k t u f h = let same : u ≡ without_last k t = cc in ap (λ (x : Session). x.history) same
gone-history false k t u f h = cc

back-history : (k : ℕ) (t u : Session) → back_of k t ≡ Ok u → u.history ≡ t.history
unfolding back_of
back-history k t u h = gone-history (nat_le k (length t.earlier)) k t u (NoHistory (length t.earlier)) h

pub redo_is_exact : RedoIsExact
redo_is_exact s t u events short room a back =
    let k = length events in
    let gone = (back_is_exact s t events short a).0 room in
    let is : u ≡ gone.0 = (let same : Ok u ≡ Ok gone.0 = sym back ∙ gone.1 in cc) in
    let all : states u ≡ states (with_last_earlier (s.history - k) s) = ap states is ∙ gone.2 in
    let kept = keep_last (s.history - k) s.earlier in
    let follows : Follows (s.history - k) s u = record {
      history = back-history k t u back ∙ same_history events s t a;
      current = last_is u.earlier kept u.current s.current all;
      earlier = front_is u.earlier kept u.current s.current all;
    } in
    again events (s.history - k) s t u short (omega arith) a follows
