-- Steps through the bytes of a header.
use Rattle.std.proofs.Common.{◌≡◌, ◌≢◌, ◌∙◌, ◌-◌, sym, take, length-drop, eq-eqb, ne_eqb, option_and_then, ℕ, ◌+◌, ◌<◌, ◌≤◌, ◌==◌, ◌&&◌, Bool, true, false, List, [], ◌∷◌, length, get_or, drop, refl, ap, add-one, arith, drop-cons, None, Some, if◌then◌else◌}
use Rattle.std.proofs.lemmas.Grind.{common_steps}
use Rattle.std.proofs.lemmas.List.{take_all}
use Rattle.json_messages.specs.Messages.{begins_field, ends_header, header_from, length_in, number_from, value_in, with_digit}

-- What stands from an index on, as a slice has it.
tail : (bytes : List ℕ) (i : ℕ) → take (length bytes - i) (drop i bytes) ≡ drop i bytes
tail bytes i = take_all (length bytes - i) (drop i bytes) (omega (arith, length-drop i bytes))

-- ---- where the header ends

header_at : (at b : ℕ) (bs : List ℕ) → ends_header (b ∷ bs) ≡ true → header_from at (b ∷ bs) ≡ Some at
unfolding header_from
header_at at b bs h = rw h refl

header_behind : (at b : ℕ) (bs : List ℕ) → ends_header (b ∷ bs) ≡ false → header_from at (b ∷ bs) ≡ header_from (at + 1) bs
unfolding header_from
header_behind at b bs h = rw h refl

header_none : (at : ℕ) → header_from at [] ≡ None
unfolding header_from
header_none at = refl

pub header_found : (bytes : List ℕ) (i : ℕ) → i < length bytes → ends_header (take (length bytes - i) (drop i bytes)) ≡ true
    → header_from i (drop i bytes) ≡ Some i
header_found bytes i h t =
    let e : drop i bytes ≡ get_or bytes i 0 ∷ drop (i + 1) bytes = rw add-one (drop-cons bytes i 0 h) in
    let u : ends_header (get_or bytes i 0 ∷ drop (i + 1) bytes) ≡ true = rw (tail bytes i, e) at t in
    rw e (header_at i (get_or bytes i 0) (drop (i + 1) bytes) u)

pub header_step : (bytes : List ℕ) (i : ℕ) → i < length bytes → ends_header (take (length bytes - i) (drop i bytes)) ≡ false
    → header_from i (drop i bytes) ≡ header_from (i + 1) (drop (i + 1) bytes)
header_step bytes i h t =
    let e : drop i bytes ≡ get_or bytes i 0 ∷ drop (i + 1) bytes = rw add-one (drop-cons bytes i 0 h) in
    let u : ends_header (get_or bytes i 0 ∷ drop (i + 1) bytes) ≡ false = rw (tail bytes i, e) at t in
    rw e (header_behind i (get_or bytes i 0) (drop (i + 1) bytes) u)

pub header_end : (bytes : List ℕ) (i : ℕ) → length bytes ≤ i → header_from i (drop i bytes) ≡ None
header_end bytes i h = let e : drop i bytes ≡ [] = grind (arith, common_steps) in rw e (header_none i)

-- ---- the number

number_none : (n : ℕ) → number_from n [] ≡ Some n
unfolding number_from
number_none n = refl

number_behind : (n b : ℕ) (bs : List ℕ) → number_from n (b ∷ bs) ≡ (if b == 13 then Some n else option_and_then (λ more. number_from more bs) (with_digit n b))
unfolding number_from
number_behind n b bs = refl

number_at : (bytes : List ℕ) (i n : ℕ) → i < length bytes → number_from n (drop i bytes)
    ≡ (if get_or bytes i 0 == 13 then Some n else option_and_then (λ more. number_from more (drop (i + 1) bytes)) (with_digit n (get_or bytes i 0)))
number_at bytes i n h =
    let e : drop i bytes ≡ get_or bytes i 0 ∷ drop (i + 1) bytes = rw add-one (drop-cons bytes i 0 h) in
    rw e (number_behind n (get_or bytes i 0) (drop (i + 1) bytes))

pub number_stop : (bytes : List ℕ) (i n : ℕ) → i < length bytes → get_or bytes i 0 ≡ 13 → number_from n (drop i bytes) ≡ Some n
number_stop bytes i n h t = let u : (get_or bytes i 0 == 13) ≡ true = eq-eqb _ _ t in rw (number_at bytes i n h, u) refl

pub number_refused : (bytes : List ℕ) (i n : ℕ) → i < length bytes → (get_or bytes i 0 ≢ 13) → with_digit n (get_or bytes i 0) ≡ None
    → number_from n (drop i bytes) ≡ None
number_refused bytes i n h t d = let u : (get_or bytes i 0 == 13) ≡ false = ne_eqb _ _ t in rw (number_at bytes i n h, u, d) refl

pub number_step : (bytes : List ℕ) (i n m : ℕ) → i < length bytes → (get_or bytes i 0 ≢ 13) → with_digit n (get_or bytes i 0) ≡ Some m
    → number_from n (drop i bytes) ≡ number_from m (drop (i + 1) bytes)
number_step bytes i n m h t d = let u : (get_or bytes i 0 == 13) ≡ false = ne_eqb _ _ t in rw (number_at bytes i n h, u, d) refl

pub number_end : (bytes : List ℕ) (i n : ℕ) → length bytes ≤ i → number_from n (drop i bytes) ≡ Some n
number_end bytes i n h = let e : drop i bytes ≡ [] = grind (arith, common_steps) in rw e (number_none n)

-- ---- the field

length_none : (begins : Bool) → length_in begins [] ≡ None
unfolding length_in
length_none begins = refl

length_behind : (begins : Bool) (b : ℕ) (bs : List ℕ) → length_in begins (b ∷ bs)
    ≡ (if begins && begins_field (b ∷ bs) then value_in (b ∷ bs) else length_in (b == 10) bs)
unfolding length_in
length_behind begins b bs = refl

length_at : (bytes : List ℕ) (i : ℕ) (begins : Bool) → i < length bytes
    → length_in begins (drop i bytes) ≡ (if begins && begins_field (drop i bytes) then value_in (drop i bytes) else length_in (get_or bytes i 0 == 10)
    (drop (i + 1) bytes))
length_at bytes i begins h =
    let e : drop i bytes ≡ get_or bytes i 0 ∷ drop (i + 1) bytes = rw add-one (drop-cons bytes i 0 h) in
    rw e (length_behind begins (get_or bytes i 0) (drop (i + 1) bytes))

pub length_found : (bytes : List ℕ) (i : ℕ) (begins : Bool) → i < length bytes
    → (begins && begins_field (take (length bytes - i) (drop i bytes))) ≡ true
    → length_in begins (drop i bytes) ≡ value_in (take (length bytes - i) (drop i bytes))
length_found bytes i begins h t =
    let u : (begins && begins_field (drop i bytes)) ≡ true = rw (tail bytes i) at t in
    rw (length_at bytes i begins h, u) (ap value_in (sym (tail bytes i)))

pub length_step : (bytes : List ℕ) (i : ℕ) (begins : Bool) → i < length bytes
    → (begins && begins_field (take (length bytes - i) (drop i bytes))) ≡ false
    → length_in begins (drop i bytes) ≡ length_in (get_or bytes i 0 == 10) (drop (i + 1) bytes)
length_step bytes i begins h t = let u : (begins && begins_field (drop i bytes)) ≡ false = rw (tail bytes i) at t in rw (length_at bytes i begins h, u) refl

pub length_end : (bytes : List ℕ) (i : ℕ) (begins : Bool) → length bytes ≤ i → length_in begins (drop i bytes) ≡ None
length_end bytes i begins h = let e : drop i bytes ≡ [] = grind (arith, common_steps) in rw e (length_none begins)
