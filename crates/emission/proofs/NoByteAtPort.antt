-- No line without a fault puts a byte at a port address.
use Rattle.std.proofs.Common.{◌≡◌, ◌≢◌, ℕ, zero, suc, ◌+◌, ◌≤◌, ◌<◌, Bool, true, false, List, [], ◌∷◌, length, Option, Some, None, Result, Ok, Err, replicate, get_or, inl, inr, refl, ap, arith, get_or-set_other}
use Rattle.std.specs.Prelude.{nat_le, nat_lt, ◌||◌, ◌&&◌, slice_set, is_some}
use Rattle.std.proofs.lemmas.Bool.Decides.{nat_tests, leb_tells}
use Rattle.std.proofs.lemmas.List.{get_or-replicate, get_or_past, length-replicate}
use Rattle.model.specs.State.{Map, is_port, has_port_byte}
use Rattle.model.specs.Image.{empty_image, has_byte, with_bytes}
use Rattle.model.specs.Value.{Numbers}
use Rattle.model.specs.Bytes.{has_port, line_bytes, value_fault}
use Rattle.model.specs.Layout.{PlacedLine, size_of, unless}
use Rattle.model.specs.declared.source_fault.AsmFaultKind.{AsmFaultKind}
use Rattle.law_sources.specs.Judging.{image_with_line}
use Rattle.emission.proofs.BytesFitSize.{line_size, placed_right}

abbrev Cells : Type 0
Cells = List (Option ℕ)

abbrev nothing : Option ℕ
nothing = None

abbrev right : Cells → Result Cells AsmFaultKind
right image = Ok image

abbrev wrong : AsmFaultKind → Result Cells AsmFaultKind
wrong kind = Err kind

-- no byte at a port address
pub record IsSpared (m : Map) (image : Cells) : Type 0 where
  pub free : (q : ℕ) → is_port m q ≡ true → has_byte image q ≡ false

or_false : (a b : Bool) → (a || b) ≡ false → (a ≡ false) × (b ≡ false)
or_false true b h = cc
or_false false b h = (refl, h)

differ : (m : Map) (a q : ℕ) → is_port m a ≡ false → is_port m q ≡ true → q ≢ a
differ m a q off on same = let there : is_port m a ≡ true = rw same at on in cc

set_spared : (m : Map) (image : Cells) (a b : ℕ) → is_port m a ≡ false → IsSpared m image → IsSpared m (slice_set image a (Some b))
unfolding has_byte
set_spared m image a b off s = record {
  free = λ q on. let apart : q ≢ a = differ m a q off on in rw get_or-set_other (s.free q on);
}

bytes_spared : (m : Map) (bytes : List ℕ) (image : Cells) (a n : ℕ) → length bytes ≤ n → has_port m a n ≡ false → IsSpared m image
    → IsSpared m (with_bytes image a bytes)
unfolding has_port
bytes_spared m [] image a n small off s = s
bytes_spared m (b ∷ bytes) image a zero small off s = absurd (omega arith)
bytes_spared m (b ∷ bytes) image a (suc n) small off s =
    let parts = or_false (is_port m a) (has_port m (a + 1) n) off in
    bytes_spared m bytes (slice_set image a (Some b)) (a + 1) n (omega arith) parts.1 (set_spared m image a b parts.0 s)

same_ok : (x y : Cells) → right x ≡ right y → x ≡ y
same_ok x y h = cc

no_ok : (x : Cells) (kind : AsmFaultKind) → wrong kind ≡ right x → ⊥
no_ok x kind h = cc

-- a line that is put leaves no byte there
pub put_spared : (m : Map) (numbers : Numbers) (image new : Cells) (p : PlacedLine) → image_with_line m numbers image p ≡ Ok new → IsSpared m image
    → IsSpared m new
unfolding image_with_line
put_spared m numbers image new p done s = by (value_fault m numbers image p) refl done
  where
    by : (fault : Option AsmFaultKind) → value_fault m numbers image p ≡ fault
        → unless fault (Ok (with_bytes image p.address (line_bytes numbers p))) ≡ Ok new → IsSpared m new
    by None right made =
        let same : with_bytes image p.address (line_bytes numbers p) ≡ new = same_ok (with_bytes image p.address (line_bytes numbers p)) new made in
        rw (← same) (bytes_spared m (line_bytes numbers p) image p.address (size_of p.content) (line_size numbers p)
        (placed_right m numbers image p right).port s)
    by (Some kind) wrong made = absurd (no_ok new kind made)

blank_cell : (n q : ℕ) → get_or (replicate n nothing) q None ≡ None
blank_cell n q = elim (leb_tells (suc q) n) [
  | inl inside ↦ get_or-replicate n q nothing None inside.1
  | inr past ↦ let whole : length (replicate n nothing) ≤ q = omega (arith, past.1, length-replicate {A = Option ℕ} n nothing) in
      get_or_past (replicate n nothing) q None whole
]

blank_spared : (m : Map) (n : ℕ) → IsSpared m (replicate n nothing)
unfolding has_byte
blank_spared m n = record { free = λ q on. ap (λ (c : Option ℕ). is_some c) (blank_cell n q) }

empty_is : (n : ℕ) → n ≡ 65536 → replicate n nothing ≡ empty_image
unfolding empty_image
empty_is n e = ap (λ (k : ℕ). replicate k nothing) e

empty_spared_at : (m : Map) (n : ℕ) → n ≡ 65536 → IsSpared m empty_image
empty_spared_at m n e = rw (← empty_is n e) (blank_spared m n)

pub empty_spared : (m : Map) → IsSpared m empty_image
empty_spared m = empty_spared_at m 65536 refl

port_test : (p j : ℕ) → j < 4 → (nat_le p (p + j) && nat_lt (p + j) (p + 4)) ≡ true
port_test p j h = grind (arith, nat_tests)

on_port : (m : Map) (k : ℕ) → k < 4 → is_port m (m.port + k) ≡ true
unfolding is_port
on_port m k small = port_test m.port k small

first_on : (m : Map) → is_port m m.port ≡ true
first_on m = let same : m.port + 0 ≡ m.port = omega arith in rw same at (on_port m 0 (omega arith))

pub spared_is : (m : Map) (image : Cells) → IsSpared m image → has_port_byte m image ≡ false
unfolding has_port_byte
spared_is m image s =
    rw (
      s.free m.port (first_on m),
      s.free (m.port + 1) (on_port m 1 (omega arith)),
      s.free (m.port + 2) (on_port m 2 (omega arith)),
      s.free
          (m.port + 3) (on_port m 3 (omega arith)),
    ) refl
