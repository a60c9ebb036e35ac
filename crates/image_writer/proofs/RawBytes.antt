-- Bytes without records are read again as the part of the image that they are.
use Rattle.std.proofs.Common.{◌≡◌, ℕ, zero, suc, ◌+◌, ◌-◌, ◌*◌, ◌/◌, ◌%◌, ◌<◌, ◌≤◌, leb, cond, Bool, true, false, ◌&&◌, List, [], ◌∷◌, map, length, take, drop, replicate, set, get_or, Option, None, Some, unwrap_or, Result, Ok, Err, refl, sym, ap, subst, ◌∙◌, ◌⊎◌, arith, inl, inr, append_assoc, ◌++◌}
use Rattle.std.proofs.Math.ListN.{get_or-map}
use Rattle.std.proofs.lemmas.Bool.{and_cases, and_parts, cases_Bool, cases_eq, leb-false, leb-true, le-leb}
use Rattle.std.proofs.lemmas.List.{get_or-drop, get_or-set_other, get_or-set_same, get_or-take, get_or_default, length-drop, length-map, length-set, length-take, map-append, take_more}
use Rattle.model.specs.Image.{empty_image, with_bytes}
use Rattle.image_reader.specs.Images.{prg_image, raw_image}
use Rattle.image_reader.specs.declared.fault.ImageFault.{ImageFault}
use Rattle.image_writer.specs.ImageTexts.{byte_of, prg_bytes, raw_bytes}
use Rattle.image_writer.specs.Window.{IsPart, IsReadPart, filled_with, is_inside}

abbrev Cells : Type 0
Cells = List (Option ℕ)

-- ---- bytes put into cells

outside : (bytes : List ℕ) (cells : Cells) (a k : ℕ) → (k < a) ⊎ (a + length bytes ≤ k) → get_or (with_bytes cells a bytes) k None ≡ get_or cells k None
outside [] cells a k h = refl
outside (b ∷ bytes) cells a k (inl below) =
    outside bytes (set cells a (Some b)) (a + 1) k (inl (omega (arith, below))) ∙ get_or-set_other cells a k (Some b) None (λ e. omega (arith, below, e))
outside (b ∷ bytes) cells a k (inr above) =
    outside bytes (set cells a (Some b)) (a + 1) k (inr (omega (arith, above))) ∙ get_or-set_other cells a k (Some b) None (λ e. omega (arith, above, e))

inside : (bytes : List ℕ) (cells : Cells) (a k : ℕ) → a ≤ k → k < a + length bytes → a + length bytes ≤ length cells
    → get_or (with_bytes cells a bytes) k None ≡ Some (get_or bytes (k - a) 0)
inside [] cells a k low high room = absurd (omega (arith, low, high))
inside (b ∷ bytes) cells a k low high room =
    let later = inside bytes (set cells a (Some b)) (a + 1) k in
    elim (cases_eq k a) [
      | inl e ↦
          let none : k - a ≡ 0 = omega (arith, e) in
          outside bytes (set cells a (Some b)) (a + 1) k (inl (omega (arith, e)))
          ∙ ap (λ (i : ℕ). get_or (set cells a (Some b)) i None) e
          ∙ get_or-set_same cells a (Some b) None (omega (arith, room))
          ∙ ap (λ (i : ℕ). Some (get_or (b ∷ bytes) i 0)) (sym none)
      | inr other ↦
          let next : suc (k - (a + 1)) ≡ k - a = omega (arith, low, other) in
          later (omega (arith, low, other)) (omega (arith, high)) (omega (arith, room, length-set cells a (Some b)))
          ∙ ap (λ (i : ℕ). Some (get_or (b ∷ bytes) i 0)) next
    ]

-- ---- the image with no byte

none_at : (n k : ℕ) → get_or (replicate {A = Option ℕ} n None) k None ≡ None
none_at zero k = refl
none_at (suc n) zero = refl
none_at (suc n) (suc k) = none_at n k

empty_is : (n : ℕ) → n ≡ 65536 → replicate {A = Option ℕ} n None ≡ empty_image
unfolding empty_image
empty_is n e = ap (λ (k : ℕ). replicate {A = Option ℕ} k None) e

pub empty_at : (n k : ℕ) → n ≡ 65536 → get_or empty_image k None ≡ None
empty_at n k e = ap (λ (c : Cells). get_or c k None) (sym (empty_is n e)) ∙ none_at n k

pub empty_size : (n : ℕ) → n ≡ 65536 → length empty_image ≡ n
empty_size n e = ap length (sym (empty_is n e)) ∙ size n where
  size : (m : ℕ) → length (replicate {A = Option ℕ} m None) ≡ m
  size zero = refl
  size (suc m) = ap suc (size m)

-- ---- the bytes of a part

filled : (fill : ℕ) (cell : Option ℕ) → Some (unwrap_or cell fill) ≡ filled_with (Some fill) cell
filled fill None = refl
filled fill (Some b) = refl

raw_size : (low high fill : ℕ) (cells : Cells) → high < length cells → length (raw_bytes low high fill cells) ≡ high + 1 - low
unfolding raw_bytes
raw_size low high fill cells h =
    let a = length-map (take (high + 1 - low) (drop low cells)) (byte_of fill) in
    let b = length-take (high + 1 - low) (drop low cells) in
    let c = length-drop low cells in
    omega (arith, a, b, c, h)

raw_at : (low high fill k : ℕ) (cells : Cells) → low ≤ k → k ≤ high → high < length cells
    → get_or (raw_bytes low high fill cells) (k - low) 0 ≡ unwrap_or (get_or cells k None) fill
unfolding raw_bytes
raw_at low high fill k cells a b h =
    let part = take (high + 1 - low) (drop low cells) in
    let size : length (map (byte_of fill) part) ≡ high + 1 - low = raw_size low high fill cells h in
    let back : low + (k - low) ≡ k = omega (arith, a) in
    get_or_default (map (byte_of fill) part) (k - low) 0 fill (omega (arith, size, a, b))
    ∙ get_or-map (byte_of fill) part (k - low) None
    ∙ ap (byte_of fill) (get_or-take (high + 1 - low) (drop low cells) (k - low) None (omega (arith, a, b)) ∙ get_or-drop low cells (k - low) None
    ∙ ap (λ (i : ℕ). get_or cells i None) back)

is_part : (low high fill : ℕ) (cells : Cells) → low ≤ high → high < 65536 → length cells ≡ 65536
    → IsPart low high (Some fill) cells (with_bytes empty_image low (raw_bytes low high fill cells))
is_part low high fill cells le top size = λ k.
    let bytes = raw_bytes low high fill cells in
    let n = raw_size low high fill cells (omega (arith, size, top)) in
    elim (cases_Bool (is_inside low high k)) [
      | inl t ↦
          let both = and_parts (leb low k) (leb k high) t in
          let a = leb-true low k both.0 in
          let b = leb-true k high both.1 in
          rw t (inside bytes empty_image low k a (omega (arith, n, b, le)) (omega (arith, n, le, top, size, empty_size (length cells) size))
          ∙ ap (λ (x : ℕ). Some x) (raw_at low high fill k cells a b (omega (arith, size, top)))
          ∙ filled fill (get_or cells k None))
      | inr f ↦ rw f (outside bytes empty_image low k (apart k (and_cases (leb low k) (leb k high) f) n) ∙ empty_at (length cells) k size)
    ] where
      apart : (k : ℕ) → ((leb low k ≡ false) ⊎ (leb k high ≡ false)) → length (raw_bytes low high fill cells) ≡ high + 1 - low
          → (k < low) ⊎ (low + length (raw_bytes low high fill cells) ≤ k)
      apart k (inl e) n = inl (leb-false low k e)
      apart k (inr e) n = let above = leb-false k high e in inr (omega (arith, above, n, le))

raw_is : (low : ℕ) (bytes : List ℕ) → low + length bytes ≤ 65536 → raw_image low bytes ≡ Ok (with_bytes empty_image low bytes)
unfolding raw_image
raw_is low bytes h = rw (le-leb (low + length bytes) 65536 h) refl

pub raw_read : (low high fill : ℕ) (cells : Cells) → low ≤ high → high < 65536 → length cells ≡ 65536
    → IsReadPart low high fill cells (raw_image low (raw_bytes low high fill cells))
raw_read low high fill cells le top size = (
  with_bytes empty_image low (raw_bytes low high fill cells),
  raw_is low (raw_bytes low high fill cells) (omega (arith, raw_size low high fill cells (omega (arith, size, top)), le, top)),
  is_part low high fill cells le top size,
)

pub prg_read : (low high fill : ℕ) (cells : Cells) → low ≤ high → high < 65536 → length cells ≡ 65536
    → IsReadPart low high fill cells (prg_image (prg_bytes low high fill cells))
prg_read low high fill cells le top size =
    let same : low ≡ low / 256 * 256 + low % 256 = omega arith in
    subst (λ (a : ℕ). IsReadPart low high fill cells (raw_image a (raw_bytes low high fill cells))) same (raw_read low high fill cells le top size)

pub one_more : (fill : ℕ) (part : Cells) (i : ℕ) (cell : Option ℕ) → i < length part → cell ≡ get_or part i cell → (out start : List ℕ)
    → out ≡ start ++ map (byte_of fill) (take i part)
    → out ++ unwrap_or cell fill ∷ [] ≡ start ++ map (byte_of fill) (take (i + 1) part)
one_more fill part i cell below is out start e =
    let read : cell ≡ get_or part i None = is ∙ get_or_default part i cell None below in
    ap (λ (o : List ℕ). o ++ unwrap_or cell fill ∷ []) e
    ∙ append_assoc start (map (byte_of fill) (take i part)) (unwrap_or cell fill ∷ [])
    ∙ ap (λ (c : Option ℕ). start ++ (map (byte_of fill) (take i part) ++ byte_of fill c ∷ [])) read
    ∙ ap (λ (t : List ℕ). start ++ t) (sym (map-append (byte_of fill) (take i part) (get_or part i None ∷ []))
    ∙ ap (λ (t : Cells). map (byte_of fill) t) (sym (take_more part i None below)))
