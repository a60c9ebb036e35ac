-- Going back over accepted events gives the session before them.
use Rattle.std.proofs.Common.{◌≡◌, ℕ, ◌+◌, ◌-◌, ◌%◌, ◌<◌, ◌≤◌, min, suc, true, false, List, [], ◌∷◌, ◌++◌, length, take, drop, get_or, Ok, Err, refl, sym, ap, ◌∙◌, arith, cond, eqb, nat_le, length-append, length-take, length-drop}
use Rattle.std.proofs.lemmas.Bool.Decides.{nat_tests}
use Rattle.std.proofs.lemmas.List.{take_more, take-append-le, take-take, take_at, take_all, get_or_at, drop-drop, drop-append-le}
use Rattle.model.specs.State.{State}
use Rattle.model.specs.Session.{Session, with_state, keep_last}
use Rattle.model.specs.declared.event.Event.{Event}
use Rattle.model.specs.declared.session_fault.SessionFault.TheVariants.{NoHistory}
use Rattle.model.specs.Back.{states, number_back, without_last, back_of, Accepts, with_last_earlier, BackIsExact}

-- ---- the last states

pub length-keep_last : (n : ℕ) (xs : List State) → length (keep_last n xs) ≡ min n (length xs)
length-keep_last n xs = omega (arith, length-drop (length xs - n) xs)

pub keep_last-all : (n : ℕ) (xs : List State) → length xs ≤ n → keep_last n xs ≡ xs
keep_last-all n xs h = let z : length xs - n ≡ 0 = omega arith in ap (λ k. drop k xs) z

pub keep_last-push : (n : ℕ) (xs : List State) (x : State) → 0 < n
    → keep_last n (xs ++ x ∷ []) ≡ keep_last (n - 1) xs ++ x ∷ []
keep_last-push n xs x h =
    let z : length (xs ++ x ∷ []) - n ≡ length xs - (n - 1) = omega (arith, length-append xs (x ∷ [])) in
    ap (λ k. drop k (xs ++ x ∷ [])) z ∙ drop-append-le (length xs - (n - 1)) xs (x ∷ []) (omega arith)

pub keep_last-keep_last : (m n : ℕ) (xs : List State) → m ≤ n
    → keep_last m (keep_last n xs) ≡ keep_last m xs
keep_last-keep_last m n xs h =
    let kept = keep_last n xs in
    let z : (length xs - n) + (length kept - m) ≡ length xs - m = omega (arith, length-keep_last n xs) in
    drop-drop (length kept - m) (length xs - n) xs ∙ ap (λ k. drop k xs) z

-- ---- a list of states and its last one

last_is : (xs ys : List State) (x y : State) → xs ++ x ∷ [] ≡ ys ++ y ∷ [] → x ≡ y
last_is xs ys x y h =
    let n : length xs ≡ length ys = omega (arith, ap length h, length-append xs (x ∷ []), length-append ys (y ∷ [])) in
    sym (get_or_at xs x [] x (length xs) refl) ∙ ap (λ l. get_or l (length xs) x) h ∙ get_or_at ys y [] x (length xs) (sym n)

front_is : (xs ys : List State) (x y : State) → xs ++ x ∷ [] ≡ ys ++ y ∷ [] → xs ≡ ys
front_is xs ys x y h =
    let n : length xs ≡ length ys = omega (arith, ap length h, length-append xs (x ∷ []), length-append ys (y ∷ [])) in
    sym (take_at xs (x ∷ []) (length xs) refl) ∙ ap (take (length xs)) h ∙ take_at ys (y ∷ []) (length xs) (sym n)

-- sessions that differ in their states alone
pub record SameRest (s u : Session) : Type 0 where
  pub history : u.history ≡ s.history
  pub breaks : u.breaks ≡ s.breaks
  pub watches : u.watches ≡ s.watches
  pub number : u.number ≡ s.number
  pub replayed : u.replayed ≡ s.replayed

same_session : (s u : Session) → SameRest s u → states u ≡ states s → u ≡ s
same_session s u rest h =
    let front = front_is u.earlier s.earlier u.current s.current h in
    let last = last_is u.earlier s.earlier u.current s.current h in
    λ i. record {
      earlier = front i;
      current = last i;
      history = rest.history i;
      breaks = rest.breaks i;
      watches = rest.watches i;
      number =
          rest.number i;
      replayed = rest.replayed i;
    }

-- ---- going back

pub states-without_last : (k : ℕ) (s : Session) → k ≤ length s.earlier
    → states (without_last k s) ≡ take (length s.earlier - k + 1) (states s)
unfolding without_last
states-without_last k s h =
    let left = length s.earlier - k in
    let within : left < length (states s) = omega (arith, length-append s.earlier (s.current ∷ [])) in
    ap (λ l. l ++ get_or (states s) left s.current ∷ []) (sym (take-append-le left s.earlier (s.current ∷ []) (omega arith)))
    ∙ sym (take_more (states s) left s.current within)

-- what has the states that are left and the same rest is the session gone back
pub is_gone_back : (k : ℕ) (s u : Session) → k ≤ length s.earlier → SameRest (without_last k s) u
    → states u ≡ take (length s.earlier - k + 1) (states s) → u ≡ without_last k s
is_gone_back k s u h rest e = same_session (without_last k s) u rest (e ∙ sym (states-without_last k s h))

-- the rest of a session with some events undone
pub rest-without_last : (k : ℕ) (s u : Session) → 0 < k → u.history ≡ s.history
    → u.breaks ≡ s.breaks → u.watches ≡ s.watches → u.number ≡ number_back k s.number
    → u.replayed ≡ number_back k s.number → SameRest (without_last k s) u
unfolding without_last
rest-without_last k s u h history breaks watches number replayed =
    let some : eqb k 0 ≡ false = grind (arith, nat_tests) in
    record {
      history = history;
      breaks = breaks;
      watches = watches;
      number = number;
      replayed =
          replayed ∙ ap (λ b. cond b s.replayed (number_back k s.number)) (sym some);
    }

length-without_last : (k : ℕ) (s : Session)
    → length (without_last k s).earlier ≡ length s.earlier - k
unfolding without_last
length-without_last k s = omega (arith, length-take (length s.earlier - k) s.earlier)

-- going back over none
pub without_last-zero : (s : Session) → s.number < 1024 → without_last 0 s ≡ s
unfolding without_last
without_last-zero s small =
    let n : (s.number + 1024) % 1024 ≡ s.number = omega arith in
    let all : length s.earlier - 0 ≡ length s.earlier = omega arith in
    let front : take (length s.earlier - 0) s.earlier ≡ s.earlier = take_all (length s.earlier - 0) s.earlier (omega arith) in
    let last : get_or (states s) (length s.earlier - 0) s.current ≡ s.current = get_or_at s.earlier s.current [] s.current (length s.earlier - 0) (sym all) in
    λ i. record s { earlier = front i; current = last i; number = n i }

-- the states that are left when the last one is taken away
abbrev but_last : List State → List State
but_last xs = take (length xs - 1) xs

-- one more event undone
states-suc : (k : ℕ) (s : Session) → suc k ≤ length s.earlier
    → but_last (states (without_last k s)) ≡ states (without_last (suc k) s)
states-suc k s h =
    let n = length s.earlier - k + 1 in
    let whole = length-append s.earlier (s.current ∷ []) in
    let m : length (take n (states s)) - 1 ≡ length s.earlier - suc k + 1 = omega (arith, length-take n (states s)) in
    ap but_last (states-without_last k s (omega arith)) ∙ ap (λ j. take j (take n (states s))) m
    ∙ take-take (length s.earlier - suc k + 1) n (states s) (omega arith) ∙ sym (states-without_last (suc k) s h)

-- without the state that an event appended
states_before : (n : ℕ) (s : Session) (t : State) → 0 < n → n ≤ s.history
    → but_last (states (with_last_earlier n (with_state s t)))
    ≡ states (with_last_earlier (n - 1) s)
states_before n s t h k =
    let u = with_last_earlier n (with_state s t) in
    let kept : u.earlier ≡ keep_last (n - 1) s.earlier ++ s.current ∷ [] =
    keep_last-keep_last n s.history (s.earlier ++ s.current ∷ []) k ∙ keep_last-push n s.earlier s.current h in
    let front = keep_last (n - 1) s.earlier ++ s.current ∷ [] in
    let m : length front ≡ length (front ++ t ∷ []) - 1 = omega (arith, length-append front (t ∷ [])) in
    ap (λ l. but_last (l ++ t ∷ [])) kept ∙ take_at front (t ∷ []) (length (front ++ t ∷ []) - 1) m

length-with_state : (s : Session) (t : State)
    → length (with_state s t).earlier ≡ min s.history (length s.earlier + 1)
length-with_state s t = length-keep_last s.history (s.earlier ++ s.current ∷ []) ∙ ap (min s.history) (length-append s.earlier (s.current ∷ []))

-- ---- after some accepted events

-- how many states are held
held_after : (events : List Event) (s t : Session) → length s.earlier ≤ s.history
    → Accepts s events t → length t.earlier ≡ min s.history (length s.earlier + length events)
held_after [] s t h a = ap (λ (x : Session). length x.earlier) a ∙ omega arith
held_after (e ∷ es) s t h a =
    let next = with_state s a.0 in
    let one : length next.earlier ≡ min s.history (length s.earlier + 1) = length-with_state s a.0 in
    let more : length t.earlier ≡ min s.history (length next.earlier + length es) = held_after es next t (omega arith) a.2 in
    omega arith

-- what going back over all of them leaves
back_over : (events : List Event) (s t : Session) → length s.earlier ≤ s.history
    → Accepts s events t → length events ≤ s.history → states (without_last (length events) t)
    ≡ states (with_last_earlier (s.history - length events) s)
back_over [] s t h a k =
    let same : keep_last (s.history - 0) s.earlier ≡ s.earlier = keep_last-all (s.history - 0) s.earlier (omega arith) in
    let whole = length-append t.earlier (t.current ∷ []) in
    states-without_last 0 t (omega arith) ∙ take_all (length t.earlier - 0 + 1) (states t) (omega arith) ∙ ap states a
    ∙ ap (λ l. l ++ s.current ∷ []) (sym same)
back_over (e ∷ es) s t h a k =
    let next = with_state s a.0 in
    let one : length next.earlier ≡ min s.history (length s.earlier + 1) = length-with_state s a.0 in
    let long : length t.earlier ≡ min s.history (length next.earlier + length es) = held_after es next t (omega arith) a.2 in
    let m : s.history - length es - 1 ≡ s.history - suc (length es) = omega arith in
    sym (states-suc (length es) t (omega arith)) ∙ ap but_last (back_over es next t (omega arith) a.2 (omega arith))
    ∙ states_before (s.history - length es) s a.0 (omega arith) (omega arith)
    ∙ ap (λ n. states (with_last_earlier n s)) m

pub back_of-held : (k : ℕ) (s : Session) → k ≤ length s.earlier
    → back_of k s ≡ Ok (without_last k s)
unfolding back_of
back_of-held k s h = let e : nat_le k (length s.earlier) ≡ true = grind (arith, nat_tests) in rw e refl

pub back_of-refused : (k : ℕ) (s : Session) → length s.earlier < k
    → back_of k s ≡ Err (NoHistory (length s.earlier))
unfolding back_of
back_of-refused k s h = let e : nat_le k (length s.earlier) ≡ false = grind (arith, nat_tests) in rw e refl

pub back_is_exact : BackIsExact
back_is_exact s t events h a =
    let long = held_after events s t h a in (
      λ k. (without_last (length events) t, back_of-held (length events) t (omega arith), back_over events s t h a k),
      λ k. let full : length t.earlier ≡ s.history = omega arith in back_of-refused (length events) t (omega arith) ∙ ap (λ n. Err (NoHistory n)) full,
    )
