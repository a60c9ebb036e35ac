-- Places one by one at which bytes stand.
use Rattle.std.proofs.Common.{◌≡◌, ◌∙◌, ℕ, zero, suc, ◌+◌, ◌-◌, ◌<◌, ◌≤◌, add-one, Bool, true, false, cond, eqb, nat_lt, List, [], ◌∷◌, ◌++◌, append_assoc, append-nil, length, length-append, take, drop, drop-cons, get_or, ◌%◌, refl, sym, ap, arith}
use Rattle.std.proofs.lemmas.Bool.{eq-eqb, le-ltb, lt-ltb, ne_eqb}
use Rattle.std.proofs.lemmas.Grind.{flat_map-append}
use Rattle.std.proofs.lemmas.List.{take_all}
use Rattle.std.proofs.Math.ListN.{drop_of_length-le}
use Rattle.std.specs.List.{flat_map}
use Rattle.source_map.specs.Names.{Named}
use Rattle.std.specs.Prelude.{slice_index}
use Rattle.mon_dispatch.specs.LookTexts.{found_below, found_line, nowhere_text, places_found, stands_at}
use Rattle.mon_dispatch.specs.declared.wording.TheConstants.{AND_MORE}

-- one address more
more : (m b : List ℕ) (n : ℕ) → found_below m b (suc n)
    ≡ found_below m b n ++ cond (stands_at m b n) (n ∷ []) []
unfolding found_below
more m b n = refl

pub none_found : (m b : List ℕ) → found_below m b 0 ≡ []
unfolding found_below
none_found m b = refl

-- those below a number begin those below a higher one
abbrev Begins : List ℕ → List ℕ → Type 0
Begins xs whole = (rest : List ℕ) × (whole ≡ xs ++ rest)

begins : (m b : List ℕ) (n k : ℕ) → Begins (found_below m b n) (found_below m b (k + n))
begins m b n zero = let none : 0 + n ≡ n = omega arith in
    ([], ap (found_below m b) none ∙ sym (append-nil (found_below m b n)))
begins m b n (suc k) =
    let e : suc k + n ≡ suc (k + n) = omega arith in
    let before = begins m b n k in
    let last = cond (stands_at m b (k + n)) ((k + n) ∷ []) [] in (
      before.0 ++ last,
      ap (found_below m b) e ∙ more m b (k + n) ∙ ap (λ l. l ++ last) before.1
          ∙ append_assoc (found_below m b n) before.0 last,
    )

-- ---- one address more, in numbers and in words

abbrev number : Bool → ℕ
number stands = cond stands 1 0

length-more : (stands : Bool) (xs : List ℕ) (n : ℕ)
    → length (xs ++ cond stands (n ∷ []) []) ≡ length xs + number stands
length-more true xs n = length-append xs (n ∷ [])
length-more false xs n = length-append xs []

pub count_more : (m b : List ℕ) (n count new : ℕ) → count ≡ length (found_below m b n)
    → new ≡ count + cond (stands_at m b n) 1 0 → new ≡ length (found_below m b (n + 1))
count_more m b n count new so_far grown = rw add-one (grown
    ∙ ap (λ k. k + number (stands_at m b n)) so_far
    ∙ sym (length-more (stands_at m b n) (found_below m b n) n) ∙ ap length (sym (more m b n)))

said : (names : List Named) (stands : Bool) (n count : ℕ) → count + number stands ≤ 16
    → cond stands (cond (nat_lt count 16) (found_line names n) []) []
    ≡ flat_map (found_line names) (cond stands (n ∷ []) [])
said names true n count few =
    let room : count < 16 = omega (arith, few) in
    ap (λ t. cond t (found_line names n) []) (lt-ltb count 16 room) ∙ sym (append-nil (found_line names n))
said names false n count few = refl

pub text_more : (m b : List ℕ) (names others : List Named) (n count new : ℕ) (t0 t1 t2 : List ℕ)
    → t1 ≡ t0 ++ flat_map (found_line names) (found_below m b n) → others ≡ names
    → new ≡ count + cond (stands_at m b n) 1 0 → new ≤ 16
    → t2 ≡ t1 ++ cond (stands_at m b n) (cond (nat_lt count 16) (found_line others n) []) []
    → t2 ≡ t0 ++ flat_map (found_line names) (found_below m b (n + 1))
text_more m b names others n count new t0 t1 t2 so_far same grown few now =
    let f = found_line names in
    let xs = found_below m b n in
    let stands = stands_at m b n in
    let room : count + number stands ≤ 16 = omega (arith, grown, few) in
    rw add-one (now ∙ (λ i. so_far i ++ cond stands (cond (nat_lt count 16) (found_line (same i) n) []) [])
    ∙ append_assoc t0 (flat_map f xs) (cond stands (cond (nat_lt count 16) (found_line names n) []) [])
    ∙ ap (λ l. t0 ++ l) (ap (λ l. flat_map f xs ++ l) (said names stands n count room)
    ∙ sym (flat_map-append f xs (cond stands (n ∷ []) [])) ∙ ap (flat_map f) (sym (more m b n))))

-- ---- the end of the search

front : (n : ℕ) (xs ys : List ℕ) → length xs ≡ n → take n (xs ++ ys) ≡ xs
front zero [] ys e = refl
front zero (x ∷ xs) ys e = absurd (omega (arith, e))
front (suc n) [] ys e = absurd (omega (arith, e))
front (suc n) (x ∷ xs) ys e = ap (λ l. x ∷ l) (front n xs ys (omega (arith, e)))

module _ (m b : List ℕ) (names others : List Named) (same : others ≡ names) where
  -- 16 were shown, and one more is there
  many_by : (s : Bool) (n count new : ℕ) (t0 t1 t2 t3 : List ℕ) → s ≡ stands_at m b n → n < length m
      → t1 ≡ t0 ++ flat_map (found_line names) (found_below m b n)
      → count ≡ length (found_below m b n) → count ≤ 16
      → new ≡ count + cond s 1 0 → 16 < new
      → t2 ≡ t1 ++ cond s (cond (nat_lt count 16) (found_line others n) []) []
      → t3 ≡ t2 ++ AND_MORE.now
      → t3 ≡ t0 ++ places_found b names (found_below m b (length m))
  many_by false n count new t0 t1 t2 t3 e within so_far counted few grown past now last =
      absurd (omega (arith, grown, few, past))
  many_by true n count new t0 t1 t2 t3 e within so_far counted few grown past now last =
      let xs = found_below m b n in
      let f = found_line names in
      let full : count ≡ 16 = omega (arith, grown, few, past) in
      let rest = begins m b (suc n) (length m - suc n) in
      let all : (length m - suc n) + suc n ≡ length m = omega (arith, within) in
      let ys = xs ++ (n ∷ rest.0) in
      let whole : found_below m b (length m) ≡ ys
      = ap (found_below m b) (sym all) ∙ rest.1 ∙ ap (λ l. l ++ rest.0) (more m b n
      ∙ ap (λ t. xs ++ cond t (n ∷ []) []) (sym e)) ∙ append_assoc xs (n ∷ []) rest.0 in
      let size : length xs ≡ 16 = sym counted ∙ full in
      let long : 16 < length ys = omega (arith, length-append xs (n ∷ rest.0), size) in
      let some : length ys ≡ 0 → ⊥ = λ z. absurd (omega (arith, long, z)) in
      let nothing : t2 ≡ t1 = now
      ∙ ap (λ t. t1 ++ cond t (found_line others n) []) (ap (λ k. nat_lt k 16) full ∙ le-ltb 16 16 (omega arith)) ∙ append-nil t1 in
      last ∙ ap (λ l. l ++ AND_MORE.now) (nothing ∙ so_far)
      ∙ append_assoc t0 (flat_map f xs) AND_MORE.now
      ∙ ap (λ l. t0 ++ l) (
      (λ i. flat_map f (sym (front 16 xs (n ∷ rest.0) size) i) ++ cond (sym (lt-ltb 16 (length ys) long) i) AND_MORE.now [])
      ∙ ap (λ t. cond t (nowhere_text b) (flat_map f (take 16 ys) ++ cond (nat_lt 16 (length ys)) AND_MORE.now [])) (sym (ne_eqb (length ys) 0 some))
      ∙ ap (places_found b names) (sym whole))

  pub many_found : (n count new : ℕ) (t0 t1 t2 t3 : List ℕ) → n < length m
      → t1 ≡ t0 ++ flat_map (found_line names) (found_below m b n)
      → count ≡ length (found_below m b n) → count ≤ 16
      → new ≡ count + cond (stands_at m b n) 1 0 → 16 < new
      → t2 ≡ t1 ++ cond (stands_at m b n) (cond (nat_lt count 16) (found_line others n) []) []
      → t3 ≡ t2 ++ AND_MORE.now
      → t3 ≡ t0 ++ places_found b names (found_below m b (length m))
  many_found n count new t0 t1 t2 t3 = many_by (stands_at m b n) n count new t0 t1 t2 t3 refl

  -- all addresses were looked at
  pub all_found : (n count : ℕ) (t0 t1 : List ℕ) → n ≡ length m
      → t1 ≡ t0 ++ flat_map (found_line names) (found_below m b n)
      → count ≡ length (found_below m b n) → count ≤ 16 → (count ≡ 0 → ⊥)
      → t1 ≡ t0 ++ places_found b names (found_below m b (length m))
  all_found n count t0 t1 whole so_far counted few some =
      let xs = found_below m b n in
      let f = found_line names in
      let size : length xs ≤ 16 = omega (arith, counted, few) in
      let not_none : length xs ≡ 0 → ⊥ = λ z. some (counted ∙ z) in
      so_far ∙ ap (λ l. t0 ++ l) (
      sym (append-nil (flat_map f xs))
      ∙ (λ i. flat_map f (sym (take_all 16 xs size) i) ++ cond (sym (le-ltb 16 (length xs) size) i) AND_MORE.now [])
      ∙ ap (λ t. cond t (nowhere_text b) (flat_map f (take 16 xs) ++ cond (nat_lt 16 (length xs)) AND_MORE.now [])) (sym (ne_eqb (length xs) 0 not_none))
      ∙ ap (λ k. places_found b names (found_below m b k)) whole)

  pub nowhere_found : (n count : ℕ) (t0 t1 t2 : List ℕ) → n ≡ length m
      → t1 ≡ t0 ++ flat_map (found_line names) (found_below m b n)
      → count ≡ length (found_below m b n) → count ≡ 0 → t2 ≡ t1 ++ (nowhere_text b)
      → t2 ≡ t0 ++ places_found b names (found_below m b (length m))
  nowhere_found n count t0 t1 t2 whole so_far counted none last =
      let xs = found_below m b n in
      let f = found_line names in
      let empty : xs ≡ [] = no_elements xs (sym counted ∙ none) in
      last ∙ ap (λ l. l ++ (nowhere_text b)) (so_far ∙ ap (λ l. t0 ++ flat_map f l) empty ∙ append-nil t0)
      ∙ ap (λ l. t0 ++ l) (ap (places_found b names) (sym empty) ∙ ap (λ k. places_found b names (found_below m b k)) whole)
    where
      no_elements : (xs : List ℕ) → length xs ≡ 0 → xs ≡ []
      no_elements [] h = refl
      no_elements (x ∷ xs) h = absurd (omega (arith, h))

-- ---- bytes one by one

step : (m bytes : List ℕ) (i at : ℕ) → i < length bytes → stands_at m (drop i bytes) at
    ≡ cond (eqb (slice_index m at) (get_or bytes i 0)) (stands_at m (drop (suc i) bytes) ((at + 1) % 65536)) false
unfolding stands_at
step m bytes i at h = ap (λ l. stands_at m l at) (drop-cons bytes i 0 h)

pub byte_other : (m bytes : List ℕ) (i at v : ℕ) (whole : Bool)
    → whole ≡ stands_at m (drop i bytes) at → i < length bytes → v ≡ slice_index m at
    → (v ≡ get_or bytes i 0 → ⊥) → false ≡ whole
byte_other m bytes i at v whole so_far h is unlike = sym (so_far ∙ step m bytes i at h
    ∙ ap (λ t. cond t (stands_at m (drop (suc i) bytes) ((at + 1) % 65536)) false)
    (ap (λ x. eqb x (get_or bytes i 0)) (sym is) ∙ ne_eqb v (get_or bytes i 0) unlike))

pub byte_same : (m bytes : List ℕ) (i at v : ℕ) (whole : Bool)
    → whole ≡ stands_at m (drop i bytes) at → i < length bytes → v ≡ slice_index m at
    → v ≡ get_or bytes i 0 → whole ≡ stands_at m (drop (i + 1) bytes) ((at + 1) % 65536)
byte_same m bytes i at v whole so_far h is alike = rw add-one (so_far ∙ step m bytes i at h
    ∙ ap (λ t. cond t (stands_at m (drop (suc i) bytes) ((at + 1) % 65536)) false)
    (ap (λ x. eqb x (get_or bytes i 0)) (sym is) ∙ eq-eqb v (get_or bytes i 0) alike))

pub bytes_over : (m bytes : List ℕ) (i at : ℕ) (whole : Bool)
    → whole ≡ stands_at m (drop i bytes) at → length bytes ≤ i → true ≡ whole
unfolding stands_at
bytes_over m bytes i at whole so_far h = sym (so_far ∙ ap (λ l. stands_at m l at) (drop_of_length-le bytes h))
