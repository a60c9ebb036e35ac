-- An image filled from below.
use Rattle.std.proofs.Common.{◌≡◌, ℕ, zero, suc, ◌+◌, ◌-◌, ◌<◌, ◌≤◌, List, [], ◌∷◌, length, take, Bool, true, false, Option, Some, None, refl, ap, ◌∙◌, arith, replicate}
use Rattle.std.specs.Prelude.{◌||◌, ◌&&◌, slice_set, ⊤, nat_le, nat_lt}
use Rattle.std.proofs.lemmas.Bool.{leb-true, ltb-true}
use Rattle.model.specs.State.{Map, is_port, has_port_byte}
use Rattle.model.specs.Image.{empty_image, cell_at, has_byte, with_bytes}
use Rattle.model.specs.Bytes.{has_bytes, has_port}

-- the bytes below an address
abbrev pub below : ℕ → List (Option ℕ) → List (Option ℕ)
below n [] = []
below zero (c ∷ cells) = None ∷ below zero cells
below (suc n) (c ∷ cells) = c ∷ below n cells

nothing : Option ℕ
nothing = None

below_none : (cells : List (Option ℕ)) → below 0 cells ≡ replicate (length cells) None
below_none [] = refl
below_none (c ∷ cells) = ap (λ (cs : List (Option ℕ)). None ∷ cs) (below_none cells)

empty_is : (n : ℕ) → n ≡ 65536 → replicate {A = Option ℕ} n None ≡ empty_image
unfolding empty_image
empty_is n e = ap (λ (k : ℕ). replicate {A = Option ℕ} k None) e

pub nothing_below : (cells : List (Option ℕ)) → length cells ≡ 65536 → below 0 cells ≡ empty_image
nothing_below cells size = below_none cells ∙ empty_is (length cells) size

pub all_below : (n : ℕ) (cells : List (Option ℕ)) → length cells ≤ n → below n cells ≡ cells
all_below n [] long = refl
all_below zero (c ∷ cells) long = absurd (omega (arith, long))
all_below (suc n) (c ∷ cells) long = ap (λ (cs : List (Option ℕ)). c ∷ cs) (all_below n cells (omega (arith, long)))

pub gap_below : (a : ℕ) (cells : List (Option ℕ)) → cell_at cells a ≡ None
    → below (suc a) cells ≡ below a cells
gap_below a [] gap = refl
gap_below zero (c ∷ cells) gap = rw gap refl
gap_below (suc a) (c ∷ cells) gap = ap (λ (cs : List (Option ℕ)). c ∷ cs) (gap_below a cells gap)

pub byte_below : (a b : ℕ) (cells : List (Option ℕ)) → cell_at cells a ≡ Some b
    → slice_set (below a cells) a (Some b) ≡ below (suc a) cells
byte_below a b [] here = absurd cc
byte_below zero b (c ∷ cells) here = rw here refl
byte_below (suc a) b (c ∷ cells) here = ap (λ (cs : List (Option ℕ)). c ∷ cs) (byte_below a b cells here)

none_from : (a i : ℕ) (cells : List (Option ℕ)) → a ≤ i → cell_at (below a cells) i ≡ None
none_from a i [] after = refl
none_from zero zero (c ∷ cells) after = refl
none_from zero (suc i) (c ∷ cells) after = none_from zero i cells (omega arith)
none_from (suc a) zero (c ∷ cells) after = absurd (omega (arith, after))
none_from (suc a) (suc i) (c ∷ cells) after = none_from a i cells (omega (arith, after))

pub free_from : (n a i : ℕ) (cells : List (Option ℕ)) → a ≤ i
    → has_bytes (below a cells) i n ≡ false
unfolding has_bytes has_byte
free_from zero a i cells after = refl
free_from (suc n) a i cells after = rw (none_from a i cells after) (free_from n a (i + 1) cells (omega (arith, after)))

-- ---- bytes that an image has

-- an image has these bytes from an address on
abbrev pub Shows : List (Option ℕ) → ℕ → List ℕ → Type 0
Shows cells a [] = ⊤
Shows cells a (b ∷ bytes) = (cell_at cells a ≡ Some b) × Shows cells (a + 1) bytes

pub shows_front : (n : ℕ) (cells : List (Option ℕ)) (a : ℕ) (bytes : List ℕ) → Shows cells a bytes
    → Shows cells a (take n bytes)
shows_front zero cells a bytes shown = tt
shows_front (suc n) cells a [] shown = tt
shows_front (suc n) cells a (b ∷ bytes) shown = (shown.0, shows_front n cells (a + 1) bytes shown.1)

-- put over the bytes below them they are the bytes below their end
pub put_below : (cells : List (Option ℕ)) (a : ℕ) (bytes : List ℕ) → Shows cells a bytes
    → with_bytes (below a cells) a bytes ≡ below (a + length bytes) cells
put_below cells a [] shown = let e : a + 0 ≡ a = omega arith in rw e refl
put_below cells a (b ∷ bytes) shown =
    let e : (a + 1) + length bytes ≡ a + suc (length bytes) = omega arith in
    let n : suc a ≡ a + 1 = omega arith in
    rw (byte_below a b cells shown.0, n) (put_below cells (a + 1) bytes shown.1 ∙ ap (λ (k : ℕ). below k cells) e)

pub is_within : (a b : ℕ) (cells : List (Option ℕ)) → cell_at cells a ≡ Some b → a < length cells
is_within a b [] here = absurd cc
is_within zero b (c ∷ cells) here = omega arith
is_within (suc a) b (c ∷ cells) here = omega (arith, is_within a b cells here)

pub shown_within : (cells : List (Option ℕ)) (a : ℕ) (bytes : List ℕ) → 0 < length bytes
    → Shows cells a bytes → a + length bytes ≤ length cells
shown_within cells a [] some shown = absurd (omega (arith, some))
shown_within cells a (b ∷ []) some shown = omega (arith, is_within a b cells shown.0)
shown_within cells a (b ∷ c ∷ bytes) some shown = omega (arith, shown_within cells (a + 1) (c ∷ bytes) (omega arith) shown.1)

-- ---- the port

or_false : (s t : Bool) → (s || t) ≡ false → (s ≡ false) × (t ≡ false)
or_false true t h = absurd cc
or_false false t h = (refl, h)

and_true : (s t : Bool) → (s && t) ≡ true → (s ≡ true) × (t ≡ true)
and_true true t h = (refl, h)
and_true false t h = absurd cc

has_it : (cells : List (Option ℕ)) (a b : ℕ) → cell_at cells a ≡ Some b → has_byte cells a ≡ true
unfolding has_byte
has_it cells a b here = rw here refl

-- one of the port's four
at_port : (m : Map) (cells : List (Option ℕ)) (d : ℕ) → d < 4 → has_port_byte m cells ≡ false
    → has_byte cells (m.port + d) ≡ false
unfolding has_port_byte
at_port m cells d small spared = by d small
  where
    parts : ((has_byte cells m.port || has_byte cells (m.port + 1) || has_byte cells (m.port + 2)) ≡ false) × (has_byte cells (m.port + 3) ≡ false)
    parts = or_false _ _ spared

    front : ((has_byte cells m.port || has_byte cells (m.port + 1)) ≡ false) × (has_byte cells (m.port + 2) ≡ false)
    front = or_false _ _ parts.0

    first : (has_byte cells m.port ≡ false) × (has_byte cells (m.port + 1) ≡ false)
    first = or_false _ _ front.0

    by : (d : ℕ) → d < 4 → has_byte cells (m.port + d) ≡ false
    by zero small = let e : m.port + 0 ≡ m.port = omega arith in rw e first.0
    by (suc zero) small = first.1
    by (suc (suc zero)) small = front.1
    by (suc (suc (suc zero))) small = parts.1
    by (suc (suc (suc (suc d)))) small = absurd (omega (arith, small))

pub no_port_here : (m : Map) (cells : List (Option ℕ)) (a b : ℕ) → has_port_byte m cells ≡ false
    → cell_at cells a ≡ Some b → is_port m a ≡ false
unfolding is_port
no_port_here m cells a b spared here = on (nat_le m.port a && nat_lt a (m.port + 4)) refl
  where
    on : (t : Bool) → (nat_le m.port a && nat_lt a (m.port + 4)) ≡ t → t ≡ false
    on false e = refl
    on true e =
        let both = and_true (nat_le m.port a) (nat_lt a (m.port + 4)) e in
        let low : m.port ≤ a = leb-true _ _ both.0 in
        let high : a < m.port + 4 = ltb-true _ _ both.1 in
        let same : m.port + (a - m.port) ≡ a = omega (arith, low) in
        let off : has_byte cells (m.port + (a - m.port)) ≡ false = at_port m cells (a - m.port) (omega (arith, low, high)) spared in
        let there : has_byte cells a ≡ true = has_it cells a b here in
        let never : has_byte cells a ≡ false = rw same at off in
        cc

pub no_port : (m : Map) (cells : List (Option ℕ)) (a : ℕ) (bytes : List ℕ)
    → has_port_byte m cells ≡ false → Shows cells a bytes → has_port m a (length bytes) ≡ false
unfolding has_port
no_port m cells a [] spared shown = refl
no_port m cells a (b ∷ bytes) spared shown = rw (no_port_here m cells a b spared shown.0) (no_port m cells (a + 1) bytes spared shown.1)
