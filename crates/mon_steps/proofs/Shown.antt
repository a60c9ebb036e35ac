-- Breaks one by one, and events that are shown one by one.
use Rattle.std.proofs.Common.{◌≡◌, ◌∙◌, ℕ, zero, suc, ◌+◌, ◌<◌, ◌≤◌, Bool, true, false, add-one, List, ◌++◌, append_assoc, length, drop, drop-cons, nat_eq, sym, ap, Result, Ok, Err, arith}
use Rattle.std.proofs.Math.ListN.{drop_of_length-le}
use Rattle.std.proofs.lemmas.Option.{slice_get-get_or}
use Rattle.std.specs.List.{list_any}
use Rattle.std.specs.Prelude.{⊤, ◌||◌, None, OnOk, slice_get}
use Rattle.std.specs.declared.alloc.AllocError.{AllocError}
use Rattle.mon_session.specs.Course.{Course}
use Rattle.mon_session.specs.EventTexts.{shown_text}
use Rattle.source_map.specs.Lines.{PlacesView}
use Rattle.mon_steps.specs.BackLines.{remade, undone}
use Rattle.mon_steps.specs.BackTexts.{events_text, is_this, one_remade_text, remade_text}

-- ---- breaks one by one

here : (a : ℕ) (xs : List ℕ) (i : ℕ) → i < length xs → list_any (nat_eq a) (drop i xs)
    ≡ (is_this a (slice_get xs i) || list_any (nat_eq a) (drop (suc i) xs))
here a xs i h = ap (list_any (nat_eq a)) (drop-cons xs i 0 h)
    ∙ ap (λ o. is_this a o || list_any (nat_eq a) (drop (suc i) xs)) (sym (slice_get-get_or xs i 0 h))

pub found : (a : ℕ) (xs : List ℕ) (i : ℕ) (b whole : Bool)
    → whole ≡ list_any (nat_eq a) (drop i xs) → i < length xs → b ≡ is_this a (slice_get xs i)
    → b ≡ true → true ≡ whole
found a xs i b whole so_far h is met = sym (so_far ∙ here a xs i h
    ∙ ap (λ x. x || list_any (nat_eq a) (drop (suc i) xs)) (sym is ∙ met))

pub not_here : (a : ℕ) (xs : List ℕ) (i : ℕ) (b whole : Bool)
    → whole ≡ list_any (nat_eq a) (drop i xs) → i < length xs → b ≡ is_this a (slice_get xs i)
    → b ≡ false → whole ≡ list_any (nat_eq a) (drop (i + 1) xs)
not_here a xs i b whole so_far h is unmet = rw add-one (so_far ∙ here a xs i h
    ∙ ap (λ x. x || list_any (nat_eq a) (drop (suc i) xs)) (sym is ∙ unmet))

pub nowhere : (a : ℕ) (xs : List ℕ) (i : ℕ) (whole : Bool)
    → whole ≡ list_any (nat_eq a) (drop i xs) → length xs ≤ i → false ≡ whole
nowhere a xs i whole so_far h = sym (so_far
    ∙ ap (list_any (nat_eq a)) (drop_of_length-le xs h))

-- ---- events that are shown

pub one_more_shown : (n : ℕ) (places others : PlacesView) (first now : Course)
    (t0 t1 t2 : List ℕ) → t1 ≡ t0 ++ remade_text n places first → now ≡ remade n first
    → others ≡ places → t2 ≡ t1 ++ one_remade_text others now
    → t2 ≡ t0 ++ remade_text (n + 1) places first
one_more_shown n places others first now t0 t1 t2 before at same said = rw add-one (said
    ∙ (λ i. before i ++ one_remade_text (same i) (at i))
    ∙ append_assoc t0 (remade_text n places first) (one_remade_text places (remade n first)))

pub all_shown : (r : Result ⊤ AllocError) (n : ℕ) (places : PlacesView) (course : Course)
    (t0 t1 t2 said : List ℕ) → 0 < n → t1 ≡ t0 ++ remade_text n places (undone n course)
    → said ≡ shown_text (remade n (undone n course)).0.current places.names None
    → OnOk r (t2 ≡ t1 ++ said) → OnOk r (t2 ≡ t0 ++ events_text n places course)
all_shown r zero places course t0 t1 t2 said h before same last = absurd (omega arith)
all_shown (Ok done) (suc n) places course t0 t1 t2 said h before same last = last
    ∙ (λ i. before i ++ same i)
    ∙ append_assoc t0 (remade_text (suc n) places (undone (suc n) course))
    (shown_text (remade (suc n) (undone (suc n) course)).0.current places.names None)
all_shown (Err fault) (suc n) places course t0 t1 t2 said h before same last = tt
