-- The parts of a result, and bytes as the code takes them apart.
use Rattle.std.proofs.Common.{◌≡◌, ℕ, ◌%◌, Bool, true, false, refl, bit_and}
use Rattle.std.proofs.lemmas.Grind.{common_steps}
use Rattle.std.proofs.Common.{arith}
use mir.Val.{bool_byte}
use Rattle.model.specs.declared.registers.Sum.{Sum}
use Rattle.model.specs.Arithmetic.{bit}

-- two results with the same parts
abbrev pub sum_of : ℕ → Bool → Bool → Bool → Bool → Sum
sum_of value n v z c = record { value = value; n = n; v = v; z = z; c = c }

pub same_sum : (value value' : ℕ) (n n' v v' z z' c c' : Bool) → value ≡ value' → n ≡ n' → v ≡ v' → z ≡ z' → c ≡ c'
    → sum_of value n v z c ≡ sum_of value' n' v' z' c'
same_sum value value' n n' v v' z z' c c' same_value same_n same_v same_z same_c = cc

-- a carry as the code counts it
pub bool_byte_is : (c : Bool) → bool_byte c ≡ bit c
bool_byte_is true = refl
bool_byte_is false = refl

-- the lower byte of a number, and its lowest digit
pub low_byte_is : (n : ℕ) → bit_and n 255 ≡ n % 256
low_byte_is n = grind (arith, common_steps)

pub low_digit_is : (n : ℕ) → bit_and n 15 ≡ n % 16
low_digit_is n = grind (arith, common_steps)
