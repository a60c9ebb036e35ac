-- The records of a run with one step more, and how long they are.
use Rattle.std.proofs.Common.{◌≡◌, ◌∙◌, ℕ, suc, ◌+◌, ◌*◌, ◌≤◌, Bool, true, false, cond, List, [], ◌∷◌, ◌++◌, length, Option, Some, None, Ok, refl, ap, arith}
use Rattle.std.specs.List.{flat_map}
use Rattle.std.specs.Option.{option_to_list}
use Rattle.std.specs.Prelude.{◌==◌}
use Rattle.std.proofs.lemmas.List.{length-append}
use Rattle.std.proofs.lemmas.List.Concat.{flat_map-cons}
use Rattle.model.specs.State.{IsState, State}
use Rattle.model.specs.Step.{step}
use Rattle.page_data.specs.Format.{Change, IsSmall, bytes_of, cell, counted, eight, without_zeros, word}
use Rattle.page_data.specs.Steps.{change_of, with_input}
use Rattle.page_data.proofs.Between.{step_small}
use Rattle.page_data.proofs.Recording.{no_input}

zeros-by : (t : Bool) (b : ℕ) (rest bytes : List ℕ) → length rest ≤ length bytes → length (cond t rest (b ∷ rest)) ≤ suc (length bytes)
zeros-by true b rest bytes h = omega (arith, h)
zeros-by false b rest bytes h = omega (arith, h)

zeros : (bytes : List ℕ) → length (without_zeros bytes) ≤ length bytes
unfolding without_zeros
zeros [] = omega arith
zeros (b ∷ bytes) = zeros-by (b == 0) b (without_zeros bytes) bytes (zeros bytes)

words : (xs : List ℕ) → length (flat_map word xs) ≡ 2 * length xs
words [] = refl
words (x ∷ xs) =
    let rest = words xs in
    let more = ap length (flat_map-cons word x xs) ∙ length-append (word x) (flat_map word xs) in
    omega (arith, rest, more)

cells : (xs : List (ℕ × ℕ)) → length (flat_map cell xs) ≡ 3 * length xs
cells [] = refl
cells (x ∷ xs) =
    let rest = cells xs in
    let more = ap length (flat_map-cons cell x xs) ∙ length-append (cell x) (flat_map cell xs) in
    omega (arith, rest, more)

one_out : (out : Option ℕ) → length (option_to_list out) ≤ 1
one_out None = omega arith
one_out (Some b) = omega arith

none_given : (given : List ℕ) → given ≡ [] → length (counted given) ≡ 0
none_given given h = ap (λ (l : List ℕ). length (counted l)) h

-- A record without input has 26 bytes at most.
short : (c : Change) → IsSmall c → c.given ≡ [] → length (bytes_of c) ≤ 26
unfolding bytes_of
short c small none =
    let given = none_given c.given none in
    let out = one_out c.out in
    let stores = cells c.stores in
    let reads = words c.reads in
    let marked = zeros (eight c) in
    let end = length-append (option_to_list c.out) (counted c.given) in
    let cells_on = length-append (flat_map cell c.stores) (option_to_list c.out ++ counted c.given) in
    let words_on = length-append (flat_map word c.reads) (flat_map cell c.stores ++ (option_to_list c.out ++ counted c.given)) in
    let all = length-append (without_zeros (eight c)) (flat_map word c.reads ++ (flat_map cell c.stores ++ (option_to_list c.out ++ counted c.given))) in
    omega (arith, given, out, stores, reads, marked, end, cells_on, words_on, all, small.reads, small.stores)

none_of : (s t : State) → (change_of [] s t).given ≡ []
unfolding change_of
none_of s t = refl

abbrev made_without : State → State → Type 0
made_without s t = step (with_input [] s) ≡ Ok t

without : (s t : State) → step s ≡ Ok t → made_without s t
without s t made = ap step (no_input s) ∙ made

pub one_short : (s t : State) (old new : List ℕ) (did : ℕ) → IsState s → step s ≡ Ok t → did ≡ 1 → new ≡ old ++ bytes_of (change_of [] s t)
    → length new ≤ length old + 26 * did
one_short s t old new did sound made one is =
    let record_length = short (change_of [] s t) (step_small [] s t sound (omega arith) (without s t made)) (none_of s t) in
    let both = ap length is ∙ length-append old (bytes_of (change_of [] s t)) in
    omega (arith, record_length, both, one)
