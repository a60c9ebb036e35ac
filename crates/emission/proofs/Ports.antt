-- Whether some addresses meet the port's, and an image's bytes.
use Rattle.std.proofs.Common.{◌≡◌, ℕ, zero, suc, ◌+◌, ◌-◌, ◌<◌, Bool, true, false, List, Option, refl, ◌∙◌, ap, arith}
use Rattle.std.specs.Prelude.{nat_lt, nat_le, ◌&&◌, ◌||◌}
use Rattle.std.proofs.lemmas.Bool.Decides.{nat_tests}
use Rattle.model.specs.State.{Map, is_port}
use Rattle.model.specs.Image.{has_byte}
use Rattle.model.specs.Bytes.{has_port, has_bytes}

-- the addresses from one on, and from the next one on
port_step : (p a n : ℕ) → (nat_lt 0 (suc n) && nat_lt a (p + 4) && nat_lt p (a + suc n))
    ≡ ((nat_le p a && nat_lt a (p + 4)) || (nat_lt 0 n && nat_lt (a + 1) (p + 4) && nat_lt p (a + 1 + n)))
port_step p a n = grind (arith, nat_tests)

no_port : (p a : ℕ) → (nat_lt 0 0 && nat_lt a (p + 4) && nat_lt p (a + 0)) ≡ false
no_port p a = refl

-- the port's four addresses meet a stretch of addresses
pub has_port_is : (m : Map) (a n : ℕ) → (nat_lt 0 n && nat_lt a (m.port + 4) && nat_lt m.port (a + n)) ≡ has_port m a n
unfolding has_port is_port
has_port_is m a zero = no_port m.port a
has_port_is m a (suc n) = port_step m.port a n ∙ ap (λ (b : Bool). (nat_le m.port a && nat_lt a (m.port + 4)) || b) (has_port_is m (a + 1) n)

abbrev none : List (Option ℕ) → ℕ → Type 0
none image a = has_byte image a ≡ false

-- no byte at the first of some addresses
pub has_bytes_free : (image : List (Option ℕ)) (a n : ℕ) → 0 < n → none image a → has_bytes image a n ≡ has_bytes image (a + 1) (n - 1)
unfolding has_bytes
has_bytes_free image a zero some free = absurd (omega arith)
has_bytes_free image a (suc n) some free = let e : suc n - 1 ≡ n = omega arith in rw (free, e) refl

-- a byte there
pub has_bytes_met : (image : List (Option ℕ)) (a n : ℕ) → 0 < n → has_byte image a ≡ true → has_bytes image a n ≡ true
unfolding has_bytes
has_bytes_met image a zero some met = absurd (omega arith)
has_bytes_met image a (suc n) some met = rw met refl

pub has_bytes_none : (image : List (Option ℕ)) (a n : ℕ) → n ≡ 0 → has_bytes image a n ≡ false
unfolding has_bytes
has_bytes_none image a n none = rw none refl

-- the same at a place of some addresses
pub has_bytes_next : (image : List (Option ℕ)) (a n i : ℕ) → i < n → none image (a + i)
    → has_bytes image (a + i) (n - i) ≡ has_bytes image (a + (i + 1)) (n - (i + 1))
has_bytes_next image a n i within free =
    let next : a + i + 1 ≡ a + (i + 1) = omega arith in
    let left : n - i - 1 ≡ n - (i + 1) = omega arith in
    has_bytes_free image (a + i) (n - i) (omega arith) free ∙ rw (next, left) refl
