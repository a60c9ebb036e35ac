-- The lowest changed address of a list of watches, from its end to its front.
use Rattle.std.proofs.Common.{◌≡◌, ◌≢◌, ℕ, ◌-◌, ◌<◌, ◌≤◌, Bool, true, false, true≢false, not, ◌||◌, sym, nat_eq, cond, List, [], ◌∷◌, length, drop, take, Some, None, refl, ap, ◌∙◌, arith, min, suc, eqb, zero}
use Rattle.std.specs.Prelude.{slice_get, slice_index}
use Rattle.std.specs.Option.{option_map_or}
use Rattle.std.specs.List.{list_any}
use Rattle.std.proofs.Math.Seq.{drop-cons}
use Rattle.std.proofs.lemmas.Option.{get_or_from_slice_get}
use Rattle.std.proofs.lemmas.Bool.Decides.{nat_tests}
use Rattle.model.specs.State.{State}
use Rattle.model.specs.Undo.{bus_before, put_cells}
use Rattle.model.specs.declared.undo.Change.{Change}
use Rattle.debugger.specs.Stops.{before_of}
use Rattle.model.specs.Run.{changed_addresses, lowest}

front : (ws : List ℕ) (i a : ℕ) → 0 < i → i ≤ length ws → slice_get ws (i - 1) ≡ Some a → drop (i - 1) ws ≡ a ∷ drop i ws
front ws i a some within is =
    let n : suc (i - 1) ≡ i = omega arith in
    drop-cons ws (i - 1) 0 (omega arith) ∙ (λ j. get_or_from_slice_get ws (i - 1) a 0 is j ∷ drop (n j) ws)

pub changed_here : (ws : List ℕ) (i a : ℕ) (before after : State) → 0 < i → i ≤ length ws → slice_get ws (i - 1) ≡ Some a
    → slice_index before.bus.memory a ≢ slice_index after.bus.memory a
    → lowest (changed_addresses (drop (i - 1) ws) before after) ≡ Some (option_map_or (min a) (lowest (changed_addresses (drop i ws) before after)) a)
changed_here ws i a before after some within is differ =
    let e : eqb (slice_index before.bus.memory a) (slice_index after.bus.memory a) ≡ false = grind (arith, nat_tests) in
    let rest = changed_addresses (drop i ws) before after in
    ap (λ l. lowest (changed_addresses l before after)) (front ws i a some within is) ∙ ap (λ b. lowest (cond (not b) (a ∷ rest) rest)) e

pub changed_later : (ws : List ℕ) (i a : ℕ) (before after : State) → 0 < i → i ≤ length ws → slice_get ws (i - 1) ≡ Some a
    → slice_index before.bus.memory a ≡ slice_index after.bus.memory a
    → lowest (changed_addresses (drop (i - 1) ws) before after) ≡ lowest (changed_addresses (drop i ws) before after)
changed_later ws i a before after some within is same =
    let e : eqb (slice_index before.bus.memory a) (slice_index after.bus.memory a) ≡ true = grind (arith, nat_tests) in
    let rest = changed_addresses (drop i ws) before after in
    ap (λ l. lowest (changed_addresses l before after)) (front ws i a some within is) ∙ ap (λ b. lowest (cond (not b) (a ∷ rest) rest)) e

pub one_there : (ws : List ℕ) (k : ℕ) → k < length ws → slice_get ws k ≡ None → ⊥
one_there [] k h e = absurd (omega arith)
one_there (w ∷ ws) zero h e = cc
one_there (w ∷ ws) (suc k) h e = one_there ws k (omega arith) e

-- a step whose record has no cell changes no byte
first_any : (w : ℕ) (ws : List ℕ) → list_any (nat_eq w) (w ∷ ws) ≡ true
first_any w ws = let e : nat_eq w w ≡ true = grind (arith, nat_tests) in ap (λ b. b || list_any (nat_eq w) ws) e

rest_any : (k w : ℕ) (ws : List ℕ) → list_any (nat_eq k) (w ∷ ws) ≡ false → list_any (nat_eq k) ws ≡ false
rest_any k w ws h = by (nat_eq k w) h
  where
    by : (b : Bool) → (b || list_any (nat_eq k) ws) ≡ false → list_any (nat_eq k) ws ≡ false
    by true h = absurd (true≢false h)
    by false h = h

pub none_changed : (ws : List ℕ) (before after : State) → before.bus.memory ≡ after.bus.memory → changed_addresses ws before after ≡ []
none_changed [] before after same = refl
none_changed (w ∷ ws) before after same =
    let byte : slice_index before.bus.memory w ≡ slice_index after.bus.memory w = ap (λ m. slice_index m w) same in
    let e : eqb (slice_index before.bus.memory w) (slice_index after.bus.memory w) ≡ true = grind (arith, nat_tests) in
    ap (λ b. cond (not b) (w ∷ changed_addresses ws before after) (changed_addresses ws before after)) e ∙ none_changed ws before after same

-- the bytes that are marked are the same, and all that are watched are marked
pub none_kept : (ws bytes : List ℕ) (before after : State) → ((k : ℕ) → slice_index bytes k ≡ 0 → list_any (nat_eq k) ws ≡ false)
    → ((k : ℕ) → slice_index bytes k ≢ 0 → slice_index after.bus.memory k ≡ slice_index before.bus.memory k) → changed_addresses ws before after ≡ []
none_kept [] bytes before after marks kept = refl
none_kept (w ∷ ws) bytes before after marks kept =
    let marked : slice_index bytes w ≢ 0 = λ z. true≢false (sym (first_any w ws) ∙ marks w z) in
    let byte : slice_index before.bus.memory w ≡ slice_index after.bus.memory w = sym (kept w marked) in
    let e : eqb (slice_index before.bus.memory w) (slice_index after.bus.memory w) ≡ true = grind (arith, nat_tests) in
    ap (λ b. cond (not b) (w ∷ changed_addresses ws before after) (changed_addresses ws before after)) e
    ∙ none_kept ws bytes before after (λ k z. rest_any k w ws (marks k z)) kept

same_memory : (change : Change) (s : State) → change.count ≡ 0 → (before_of change s).bus.memory ≡ s.bus.memory
unfolding bus_before
same_memory change s none = ap (λ n. put_cells (take n change.cells) s.bus.memory) none

pub no_cell : (ws : List ℕ) (change : Change) (s : State) → change.count ≡ 0 → lowest (changed_addresses ws (before_of change s) s) ≡ None
no_cell ws change s none = ap lowest (none_changed ws (before_of change s) s (same_memory change s none))

-- nothing is watched
pub no_watch : (ws : List ℕ) (change : Change) (s : State) → length ws ≡ 0 → lowest (changed_addresses ws (before_of change s) s) ≡ None
no_watch [] change s none = refl
no_watch (w ∷ ws) change s none = absurd (omega arith)
