-- What a source denotes under one map, it denotes under each map of the profile at whose port the
-- image has no byte.
use Rattle.std.proofs.Common.{◌≡◌, ℕ, zero, suc, ◌+◌, ◌<◌, ◌≤◌, List, [], ◌∷◌, length, true, false, Option, Some, None, refl, sym, ap, ◌∙◌, subst, arith, inl, inr, replicate, get_or, get_or-set_other, get_or-set_same}
use Rattle.std.specs.Prelude.{⊤, ◌&&◌, nat_lt, slice_set}
use Rattle.std.proofs.lemmas.Bool.{lt-ltb, ltb-false}
use Rattle.std.proofs.lemmas.Bool.Decides.{eqb_tells}
use Rattle.std.proofs.lemmas.List.{length-set, length-replicate}
use Rattle.model.specs.State.{Map, has_port_byte}
use Rattle.model.specs.Image.{cell_at, empty_image, with_bytes}
use Rattle.model.specs.Names.{number_in}
use Rattle.model.specs.Value.{Numbers}
use Rattle.model.specs.Layout.{Context, PlacedLine, IsLaidOut, size_of}
use Rattle.model.specs.Bytes.{BytesFillTheirSize, Makes, has_port, line_bytes, place_kinds, value_fault}
use Rattle.model.specs.Source.{Denotes, first_context, read_lines}
use Rattle.model.specs.declared.instruction.Profile.{Profile}
use Rattle.emission.proofs.BytesFitSize.{IsPlaced, placed_right}
use Rattle.law_source_forms.proofs.Cells.{is_within, no_port_here}

-- ---- bytes that are there

abbrev Has : List (Option ℕ) → ℕ → Type 0
Has cells a = (b : ℕ) × (cell_at cells a ≡ Some b)

abbrev HasAll : List (Option ℕ) → ℕ → ℕ → Type 0
HasAll cells a zero = ⊤
HasAll cells a (suc n) = Has cells a × HasAll cells (a + 1) n

set_keeps : (cells : List (Option ℕ)) (a b x : ℕ) → Has cells x → Has (slice_set cells a (Some b)) x
set_keeps cells a b x h = elim (eqb_tells x a) [
  | inl same ↦
      let inside : a < length cells = omega (arith, is_within x h.0 cells h.1, same.1) in
      (b, ap (λ (k : ℕ). get_or (slice_set cells a (Some b)) k None) same.1 ∙ get_or-set_same cells a (Some b) None inside)
  | inr other ↦ (h.0, get_or-set_other cells a x (Some b) None other.1 ∙ h.1)
]

put_keeps : (bytes : List ℕ) (cells : List (Option ℕ)) (a x : ℕ) → Has cells x → Has (with_bytes cells a bytes) x
put_keeps [] cells a x h = h
put_keeps (b ∷ bytes) cells a x h = put_keeps bytes (slice_set cells a (Some b)) (a + 1) x (set_keeps cells a b x h)

put_length : (bytes : List ℕ) (cells : List (Option ℕ)) (a : ℕ) → length (with_bytes cells a bytes) ≡ length cells
put_length [] cells a = refl
put_length (b ∷ bytes) cells a = put_length bytes (slice_set cells a (Some b)) (a + 1) ∙ length-set cells a (Some b)

put_has : (bytes : List ℕ) (cells : List (Option ℕ)) (a : ℕ) → a + length bytes ≤ length cells → HasAll (with_bytes cells a bytes) a (length bytes)
put_has [] cells a inside = tt
put_has (b ∷ bytes) cells a inside =
    let here : a < length cells = omega (arith, inside) in (
      put_keeps bytes (slice_set cells a (Some b)) (a + 1) a (b, get_or-set_same cells a (Some b) None here),
      put_has bytes
          (slice_set cells a (Some b)) (a + 1) (omega (arith, inside, length-set cells a (Some b))),
    )

makes_keeps : (m : Map) (numbers : Numbers) (placed : List PlacedLine) (image final : List (Option ℕ)) (x : ℕ) → Makes m numbers image placed final
    → Has image x → Has final x
makes_keeps m numbers [] image final x made h = rw made h
makes_keeps m numbers (p ∷ ps) image final x made h =
    makes_keeps m numbers ps (with_bytes image p.address (line_bytes numbers p)) final x made.1 (put_keeps (line_bytes numbers p) image p.address x h)

makes_keep_all : (m : Map) (numbers : Numbers) (placed : List PlacedLine) (image final : List (Option ℕ)) (n a : ℕ)
    → Makes m numbers image placed final → HasAll image a n → HasAll final a n
makes_keep_all m numbers placed image final zero a made h = tt
makes_keep_all m numbers placed image final (suc n) a made h =
    (makes_keeps m numbers placed image final a made h.0, makes_keep_all m numbers placed image final n (a + 1) made h.1)

no_port_all : (m : Map) (cells : List (Option ℕ)) (n a : ℕ) → has_port_byte m cells ≡ false → HasAll cells a n → has_port m a n ≡ false
unfolding has_port
no_port_all m cells zero a spared h = refl
no_port_all m cells (suc n) a spared h = rw (no_port_here m cells a h.0.0 spared h.0.1) (no_port_all m cells n (a + 1) spared h.1)

-- ---- a line

not_past : (a s : ℕ) → (nat_lt 0 s && nat_lt 65536 (a + s)) ≡ false → 0 < s → a + s ≤ 65536
not_past a s past some =
    let there : nat_lt 0 s ≡ true = lt-ltb 0 s some in
    let behind : nat_lt 65536 (a + s) ≡ false = rw there at past in
    omega (arith, ltb-false 65536 (a + s) behind)

same_fault : (m n : Map) (numbers : Numbers) (image : List (Option ℕ)) (p : PlacedLine) → has_port m p.address (size_of p.content) ≡ false
    → has_port n p.address (size_of p.content) ≡ false
    → value_fault m numbers image p ≡ None → value_fault n numbers image p ≡ None
unfolding value_fault place_kinds
same_fault m n numbers image p one other right = rw other (rw one at right)

line_spared : (m n : Map) (numbers : Numbers) (ps : List PlacedLine) (image final : List (Option ℕ)) (p : PlacedLine) (size : ℕ)
    → size ≡ size_of p.content → length image ≡ 65536 → length (line_bytes numbers p) ≡ size
    → value_fault m numbers image p ≡ None → Makes m numbers (with_bytes image p.address (line_bytes numbers p)) ps final
    → has_port_byte n final ≡ false → has_port n p.address size ≡ false
unfolding has_port
line_spared m n numbers ps image final p zero is full long right made spared = refl
line_spared m n numbers ps image final p (suc k) is full long right made spared =
    let placed : IsPlaced m image p = placed_right m numbers image p right in
    let room : p.address + suc k ≤ 65536 = not_past p.address (suc k) (rw (sym is) at placed.past) (omega arith) in
    let all : HasAll (with_bytes image p.address (line_bytes numbers p)) p.address (length (line_bytes numbers p)) =
    put_has (line_bytes numbers p) image p.address (omega (arith, room, long, full)) in
    let there : HasAll final p.address (suc k) = makes_keep_all m numbers ps (with_bytes image p.address (line_bytes numbers p)) final (suc k)
    p.address made (rw long at all) in
    no_port_all n final (suc k) p.address spared there

-- ---- all lines

carried : (m n : Map) (fill : BytesFillTheirSize) (numbers : Numbers) (final : List (Option ℕ)) → has_port_byte n final ≡ false
    → (lines : List (List ℕ)) (placed : List PlacedLine) (before after : Context) (image : List (Option ℕ))
    → length image ≡ 65536 → IsLaidOut before lines placed after → Makes m numbers image placed final → Makes n numbers image placed final
carried m n fill numbers final spared [] [] before after image full laid made = made
carried m n fill numbers final spared [] (p ∷ ps) before after image full laid made = let never : p ∷ ps ≡ [] = laid.0 in absurd cc
carried m n fill numbers final spared (line ∷ lines) [] before after image full laid made = absurd laid
carried m n fill numbers final spared (line ∷ lines) (p ∷ ps) before after image full laid made =
    let long : length (line_bytes numbers p) ≡ size_of p.content = fill m numbers image before laid.0 line p laid.1 made.0 in
    let other : has_port n p.address (size_of p.content) ≡ false =
    line_spared m n numbers ps image final p (size_of p.content) refl full long made.0 made.1 spared in (
      same_fault m n numbers image p (placed_right m numbers image p made.0).port other made.0,
      carried m n fill numbers final spared lines ps laid.0 after (with_bytes image p.address (line_bytes numbers p))
          (put_length (line_bytes numbers p) image p.address ∙ full) laid.2 made.1,
    )

empty_is : (n : ℕ) → n ≡ 65536 → replicate {A = Option ℕ} n None ≡ empty_image
unfolding empty_image
empty_is n e = ap (λ (k : ℕ). replicate {A = Option ℕ} k None) e

empty_size : (n : ℕ) → n ≡ 65536 → length empty_image ≡ n
empty_size n e = sym (ap (λ (cells : List (Option ℕ)). length cells) (empty_is n e)) ∙ length-replicate {A = Option ℕ} n None

pub denotes_under : (fill : BytesFillTheirSize) (m n : Map) (source : List ℕ) (image : List (Option ℕ)) → n.profile ≡ m.profile
    → has_port_byte n image ≡ false → Denotes m source image → Denotes n source image
denotes_under fill m n source image same spared d = record {
  size = d.size;
  placed = d.placed;
  all = d.all;
  laid = subst (λ (q : Profile). IsLaidOut (first_context q) (read_lines q source) d.placed d.all) (sym same) d.laid;
  made = carried m n fill (number_in d.all.names) image spared (read_lines m.profile source) d.placed (first_context m.profile) d.all empty_image
      (empty_size 65536 refl) d.laid d.made;
}
