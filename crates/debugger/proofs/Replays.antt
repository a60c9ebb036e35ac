-- Replays: the states along accepted events.
use Rattle.std.proofs.Common.{◌≡◌, ℕ, ◌+◌, ◌-◌, ◌≤◌, zero, suc, min, List, [], ◌∷◌, ◌++◌, length, take, drop, Some, Ok, refl, sym, ap, ◌∙◌, subst, arith, length-append, length-take, length-drop}
use Rattle.std.specs.Prelude.{slice_get}
use Rattle.std.proofs.lemmas.List.{drop-append-le, take-take, drop-drop, take_all, drop-take, length-take-le, take-append-drop}
use Rattle.model.specs.State.{Bus, State}
use Rattle.model.specs.Event.{event_of}
use Rattle.model.specs.Undo.{CanRestore, state_before, bus_before, Undoes}
use Rattle.model.specs.Session.{keep_last}
use Rattle.model.specs.declared.event.Event.{Event}
use Rattle.model.specs.declared.undo.Undo.{Undo}
use Rattle.debugger.specs.Replay.{next, state_after, before_each, Grows, Follows, AllFollow}

-- ---- replays of parts

pub next-accepted : (s t : State) (e : Event) → event_of s e ≡ Ok t → next s e ≡ t
unfolding next
next-accepted s t e h = rw h refl

pub state_after-append : (s : State) (es fs : List Event) → state_after s (es ++ fs) ≡ state_after (state_after s es) fs
state_after-append s [] fs = refl
state_after-append s (e ∷ es) fs = state_after-append (next s e) es fs

pub state_after-split : (k : ℕ) (s : State) (es : List Event) → state_after (state_after s (take k es)) (drop k es) ≡ state_after s es
state_after-split k s es = sym (state_after-append s (take k es) (drop k es)) ∙ ap (state_after s) (take-append-drop k es)

pub length-before_each : (s : State) (es : List Event) → length (before_each s es) ≡ length es
length-before_each s [] = refl
length-before_each s (e ∷ es) = omega (arith, length-before_each (next s e) es)

pub before_each-append : (s : State) (es : List Event) (e : Event) → before_each s (es ++ e ∷ []) ≡ before_each s es ++ state_after s es ∷ []
before_each-append s [] e = refl
before_each-append s (f ∷ es) e = ap (λ l. s ∷ l) (before_each-append (next s f) es e)

pub before_each-drop : (k : ℕ) (s : State) (es : List Event) → k ≤ length es → before_each (state_after s (take k es)) (drop k es) ≡ drop k (before_each s es)
before_each-drop zero s es h = refl
before_each-drop (suc k) s [] h = absurd (omega arith)
before_each-drop (suc k) s (e ∷ es) h = before_each-drop k (next s e) es (omega arith)

-- all states on the way, the first and the last among them
abbrev pub states_along : State → List Event → List State
states_along s es = before_each s es ++ state_after s es ∷ []

pub states_along-take : (n : ℕ) (s : State) (es : List Event) → n ≤ length es → states_along s (take n es) ≡ take (suc n) (states_along s es)
states_along-take zero s [] h = refl
states_along-take zero s (e ∷ es) h = refl
states_along-take (suc n) s [] h = absurd (omega arith)
states_along-take (suc n) s (e ∷ es) h = ap (λ l. s ∷ l) (states_along-take n (next s e) es (omega arith))

-- ---- the last states

pub length-keep_last : (n : ℕ) (xs : List State) → length (keep_last n xs) ≡ min n (length xs)
length-keep_last n xs = omega (arith, length-drop (length xs - n) xs)

-- an event appends the state before it, and the oldest beyond the history is dropped
pub kept-event : (held history : ℕ) (xs : List State) (x : State) → held ≤ history → held ≤ length xs
    → keep_last (min (held + 1) history) (xs ++ x ∷ []) ≡ keep_last history (keep_last held xs ++ x ∷ [])
kept-event held history xs x h k =
    let cut = length xs - held in
    let grown : keep_last held xs ++ x ∷ [] ≡ drop cut (xs ++ x ∷ []) = sym (drop-append-le cut xs (x ∷ []) (omega arith)) in
    let more = xs ++ x ∷ [] in
    let n : cut + (length (drop cut more) - history) ≡ length more - min (held + 1) history = omega (arith, length-drop cut more, length-append xs (x ∷ [])) in
    sym (ap (keep_last history) grown ∙ drop-drop (length (drop cut more) - history) cut more ∙ ap (λ m. drop m more) n)

-- older events may be let go
pub kept-drop : (held k : ℕ) (xs : List State) → held + k ≤ length xs → keep_last held (drop k xs) ≡ keep_last held xs
kept-drop held k xs h =
    let n : k + (length (drop k xs) - held) ≡ length xs - held = omega (arith, length-drop k xs) in
    drop-drop (length (drop k xs) - held) k xs ∙ ap (λ m. drop m xs) n

-- going back takes the last states away
pub kept-back : (held k n : ℕ) (s : State) (es : List Event) → held ≤ length es → k ≤ held → n ≡ length es - k
    → keep_last (held - k) (before_each s (take n es)) ++ state_after s (take n es) ∷ []
    ≡ take (held - k + 1) (keep_last held (before_each s es) ++ state_after s es ∷ [])
kept-back held k n s es h j e =
    let short = take n es in
    let cut = length es - held in
    let shorter : length short ≡ n = length-take-le n es (omega arith) in
    let long = length-before_each s short in
    let whole = length-before_each s es in
    let a : length (before_each s short) - (held - k) ≡ cut = omega arith in
    let left : keep_last (held - k) (before_each s short) ++ state_after s short ∷ [] ≡ drop cut (states_along s short) =
    ap (λ m. drop m (before_each s short) ++ state_after s short ∷ []) a
    ∙ sym (drop-append-le cut (before_each s short) (state_after s short ∷ []) (omega arith)) in
    let b : length (before_each s es) - held ≡ cut = omega arith in
    let right : keep_last held (before_each s es) ++ state_after s es ∷ [] ≡ drop cut (states_along s es) =
    ap (λ m. drop m (before_each s es) ++ state_after s es ∷ []) b ∙ sym (drop-append-le cut (before_each s es) (state_after s es ∷ []) (omega arith)) in
    let m : suc n ≡ cut + (held - k + 1) = omega arith in
    left ∙ ap (drop cut) (states_along-take n s es (omega arith) ∙ ap (λ x. take x (states_along s es)) m)
    ∙ drop-take cut (held - k + 1) (states_along s es) ∙ ap (take (held - k + 1)) (sym right)

-- ---- growing

pub grows-refl : (s : State) → Grows s s
grows-refl s = record {
  map = refl;
  given = take_all (length s.bus.given) s.bus.given (omega arith);
  given_len = omega arith;
  out = take_all (length s.bus.out) s.bus.out (omega arith);
  out_len = omega arith;
}

prefix_of_prefix : (xs ys zs : List ℕ) → take (length xs) ys ≡ xs → take (length ys) zs ≡ ys → length xs ≤ length ys → take (length xs) zs ≡ xs
prefix_of_prefix xs ys zs a b h = sym (take-take (length xs) (length ys) zs h) ∙ ap (take (length xs)) b ∙ a

-- only memory changed
pub grows_plain : (s t : State) → t.bus ≡ record s.bus { memory = t.bus.memory } → Grows s t
grows_plain s t rest =
    let given = ap (λ (b : Bus). b.given) rest in
    let out = ap (λ (b : Bus). b.out) rest in
    record {
      map = ap (λ (b : Bus). b.map) rest;
      given = ap (take (length s.bus.given)) given ∙ take_all (length s.bus.given) s.bus.given (omega arith);
      given_len = omega (arith, ap length given);
      out = ap (take (length s.bus.out)) out ∙ take_all (length s.bus.out) s.bus.out (omega arith);
      out_len = omega (arith, ap length out);
    }

pub grows-trans : (s t u : State) → Grows s t → Grows t u → Grows s u
grows-trans s t u a b = record {
  map = b.map ∙ a.map;
  given = prefix_of_prefix s.bus.given t.bus.given u.bus.given a.given b.given a.given_len;
  given_len = omega (arith, a.given_len, b.given_len);
  out = prefix_of_prefix s.bus.out t.bus.out u.bus.out a.out b.out a.out_len;
  out_len = omega (arith, a.out_len, b.out_len);
}

cut_again : (n : ℕ) (xs : List ℕ) → n ≤ length xs → take (length (take n xs)) xs ≡ take n xs
cut_again n xs h = ap (λ m. take m xs) (length-take-le n xs h)

grows_undone : (u : Undo) (t : State) → CanRestore u.change t.bus → Grows (state_before u t) t
unfolding state_before bus_before
grows_undone u t fits = record {
  map = refl;
  given = cut_again u.change.given_len t.bus.given fits.given;
  given_len = omega (arith, length-take u.change.given_len t.bus.given);
  out = cut_again u.change.out_len t.bus.out fits.out;
  out_len = omega (arith, length-take u.change.out_len t.bus.out);
}

-- what can be undone has only grown
pub grows_of : (u : Undo) (s t : State) → Undoes u s t → Grows s t
grows_of u s t h = subst (λ (x : State). Grows x t) h.back (grows_undone u t h.fits)

pub grows_along : (s : State) (es : List Event) → AllFollow s es → Grows s (state_after s es)
grows_along s [] all = grows-refl s
grows_along s (e ∷ es) all = grows-trans s (next s e) (state_after (next s e) es) all.0.grows (grows_along (next s e) es all.1)

-- ---- events that were accepted

pub follows_of : (u : Undo) (s t : State) (e : Event) → event_of s e ≡ Ok t → Undoes u s t → Follows s e t
follows_of u s t e h undoes = record { accepted = h; grows = grows_of u s t undoes }

pub AllFollow-append : (s : State) (es : List Event) (e : Event) (t : State) → AllFollow s es → Follows (state_after s es) e t → AllFollow s (es ++ e ∷ [])
AllFollow-append s [] e t all h = (subst (λ (x : State). Follows s e x) (sym (next-accepted s t e h.accepted)) h, tt)
AllFollow-append s (f ∷ es) e t all h = (all.0, AllFollow-append (next s f) es e t all.1 h)

pub AllFollow-take : (n : ℕ) (s : State) (es : List Event) → AllFollow s es → AllFollow s (take n es)
AllFollow-take zero s es all = tt
AllFollow-take (suc n) s [] all = tt
AllFollow-take (suc n) s (e ∷ es) all = (all.0, AllFollow-take n (next s e) es all.1)

pub AllFollow-drop : (n : ℕ) (s : State) (es : List Event) → AllFollow s es → AllFollow (state_after s (take n es)) (drop n es)
AllFollow-drop zero s es all = all
AllFollow-drop (suc n) s [] all = all
AllFollow-drop (suc n) s (e ∷ es) all = AllFollow-drop n (next s e) es all.1

-- the event at a place is accepted where its turn comes, and leads one state on
pub follow_at : (i : ℕ) (s : State) (es : List Event) (e : Event) → slice_get es i ≡ Some e → AllFollow s es
    → event_of (state_after s (take i es)) e ≡ Ok (state_after s (take (i + 1) es))
follow_at zero s [] e h all = cc
follow_at zero s (f ∷ es) e h all = let same : f ≡ e = cc in subst (λ (x : Event). event_of s x ≡ Ok (next s f)) same all.0.accepted
follow_at (suc i) s [] e h all = cc
follow_at (suc i) s (f ∷ es) e h all =
    let n : suc (i + 1) ≡ suc i + 1 = omega arith in
    follow_at i (next s f) es e h all.1 ∙ ap (λ m. Ok (state_after s (take m (f ∷ es)))) n
