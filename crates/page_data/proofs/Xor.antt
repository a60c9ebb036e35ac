-- XOR undoes itself: on numbers, on truth values, and on the flags by their byte.
use Rattle.std.proofs.Common.{◌≡◌, ◌∙◌, ℕ, ◌+◌, ◌*◌, ◌/◌, ◌%◌, ◌<◌, Bool, true, false, refl, ap, arith}
use Rattle.std.specs.Prelude.{◌==◌, bit_xor}
use Rattle.std.specs.Int.{bit_at}
use Rattle.std.proofs.lemmas.Nat.{xor_comm}
use Rattle.std.proofs.lemmas.Nat.Bits.{bit_at_xor, bit_at-lt, same_from_bits}
use Rattle.std.proofs.lemmas.Bool.Decides.{nat_tests}
use Rattle.model.specs.Arithmetic.{bit, is_minus}
use Rattle.model.specs.Effect.{flags_of_byte, status}
use Rattle.model.specs.declared.registers.Flags.{Flags}
use Rattle.law_states.proofs.Numbers.{bit_small}
use Rattle.page_data.specs.Changes.{flipped}

-- two bits
twice : (x y z w : ℕ) → x < 2 → y < 2 → z ≡ (x + y) % 2 → w ≡ (x + z) % 2 → w ≡ y
twice x y z w a b e f = omega (arith, a, b, e, f)

pub xor_again : (a b : ℕ) → bit_xor a (bit_xor a b) ≡ b
xor_again a b = same_from_bits (bit_xor a (bit_xor a b)) b
    (λ i. twice (bit_at a i) (bit_at b i) (bit_at (bit_xor a b) i) (bit_at (bit_xor a (bit_xor a b)) i) (bit_at-lt a i) (bit_at-lt b i)
    (bit_at_xor a b i) (bit_at_xor a (bit_xor a b) i))

pub xor_back : (a b : ℕ) → bit_xor b (bit_xor a b) ≡ a
xor_back a b = ap (bit_xor b) (xor_comm a b) ∙ xor_again b a

pub flip_again : (a b : Bool) → flipped (flipped a b) a ≡ b
flip_again true true = refl
flip_again true false = refl
flip_again false true = refl
flip_again false false = refl

pub flip_back : (a b : Bool) → flipped (flipped a b) b ≡ a
flip_back true true = refl
flip_back true false = refl
flip_back false true = refl
flip_back false false = refl

-- ---- bits

bit_is : (b : Bool) → (bit b == 1) ≡ b
bit_is true = refl
bit_is false = refl

pub from_bit : (x : ℕ) (b : Bool) → x ≡ bit b → (x == 1) ≡ b
from_bit x b e = ap (λ y. y == 1) e ∙ bit_is b

minus_is : (x low : ℕ) (b : Bool) → x ≡ 128 * bit b + low → low < 128 → is_minus x ≡ b
minus_is x low true e small = grind (arith, nat_tests)
minus_is x low false e small = grind (arith, nat_tests)

module _ (f : Flags) where
  pub flags_again : flags_of_byte (status false f) ≡ f
  unfolding status flags_of_byte
  flags_again =
      let n1 = bit_small f.n in
      let v1 = bit_small f.v in
      let d1 = bit_small f.d in
      let i1 = bit_small f.i in
      let z1 = bit_small f.z in
      let c1 = bit_small f.c in
      let low = 64 * bit f.v + 32 + 8 * bit f.d + 4 * bit f.i + 2 * bit f.z + bit f.c in
      let x = 128 * bit f.n + 64 * bit f.v + 32 + 16 * bit false + 8 * bit f.d + 4 * bit f.i + 2 * bit f.z + bit f.c in
      let n = minus_is x low f.n (omega arith) (omega arith) in
      let v = from_bit (x / 64 % 2) f.v (omega arith) in
      let d = from_bit (x / 8 % 2) f.d (omega arith) in
      let i' = from_bit (x / 4 % 2) f.i (omega arith) in
      let z = from_bit (x / 2 % 2) f.z (omega arith) in
      let c = from_bit (x % 2) f.c (omega arith) in
      λ k. record { n = n k; v = v k; d = d k; i = i' k; z = z k; c = c k }
