-- The value of an expression, or its first fault. Source: mos65.
use Rattle.std.specs.Prelude.{ℕ, zero, ℤ, pos, negsuc, ◌^◌, ◌&&◌, nat_lt, nat_le, Bool, true, if◌then◌else◌, List, Option, Some, None, is_some, Result, Ok, Err, bit_and, bit_or, bit_xor, ◌+ℤ◌, ◌-ℤ◌, ◌*ℤ◌, int_div}
use Rattle.std.specs.Int.{int_div_euclid, int_rem_euclid}
use Rattle.model.specs.declared.expression.ExprFault.{ExprFault}
use Rattle.model.specs.declared.expression.ExprFault.TheVariants.{UnknownName, Range, DivideByZero}
use Rattle.model.specs.declared.expression.Operator.{Operator}
use Rattle.model.specs.declared.expression.Operator.TheVariants.{Add, Subtract, Multiply, Divide, And, Or, ExclusiveOr}
use Rattle.model.specs.Expression.{Term, literal, name, here, negated, binary, low, high}

-- A value goes on; a fault ends.
infixl 10 ◌>>=◌
abbrev pub ◌>>=◌ : {A B : Type 0} → Result A ExprFault → (A → Result B ExprFault)
    → Result B ExprFault
(Ok x) >>= f = f x
(Err e) >>= f = Err e

-- The numbers that names have.
abbrev pub Numbers : Type 0
Numbers = List ℕ → Option ℤ

-- A result is in -2^31..2^31-1.
abbrev pub in_range_or_fault : ℤ → Result ℤ ExprFault
in_range_or_fault (pos n) = if nat_lt n (2 ^ 31) then Ok (pos n) else Err Range
in_range_or_fault (negsuc n) = if nat_lt n (2 ^ 31) then Ok (negsuc n) else Err Range

-- A quotient is rounded toward zero.
abbrev pub quotient : ℤ → ℤ → Result ℤ ExprFault
quotient a (pos zero) = Err DivideByZero
quotient a b = in_range_or_fault (int_div a b)

-- Both operands are in 0..65535.
abbrev pub bitwise : (ℕ → ℕ → ℕ) → ℤ → ℤ → Result ℤ ExprFault
bitwise f (pos a) (pos b) = if nat_le a 65535 && nat_le b 65535 then Ok (pos (f a b)) else Err Range
bitwise f a b = Err Range

abbrev pub operation_value : Operator → ℤ → ℤ → Result ℤ ExprFault
operation_value Add a b = in_range_or_fault (a +ℤ b)
operation_value Subtract a b = in_range_or_fault (a -ℤ b)
operation_value Multiply a b = in_range_or_fault (a *ℤ b)
operation_value Divide a b = quotient a b
operation_value And a b = bitwise bit_and a b
operation_value Or a b = bitwise bit_or a b
operation_value ExclusiveOr a b = bitwise bit_xor a b

abbrev pub literal_value : Option ℤ → Result ℤ ExprFault
literal_value None = Err Range
literal_value (Some n) = Ok n

abbrev pub name_value : Option ℤ → Result ℤ ExprFault
name_value None = Err UnknownName
name_value (Some n) = Ok n

-- The value under the numbers of the names, on a line at an address. The fault is the first one
-- from left to right; an operator's own comes after those of both its operands. `<` is the value
-- modulo 256, `>` its quotient by 256, rounded down, modulo 256.
abbrev pub value_of : Numbers → ℤ → Term → Result ℤ ExprFault
value_of numbers address (literal v) = literal_value v
value_of numbers address (name text) = name_value (numbers text)
value_of numbers address here = Ok address
value_of numbers address (negated e) = value_of numbers address e >>= λ v. in_range_or_fault (pos 0 -ℤ v)
value_of numbers address (binary op a b) = value_of numbers address a
    >>= λ x. value_of numbers address b >>= λ y. operation_value op x y
value_of numbers address (low e) = value_of numbers address e
    >>= λ v. Ok (int_rem_euclid v (pos 256))
value_of numbers address (high e) = value_of numbers address e
    >>= λ v. Ok (int_rem_euclid (int_div_euclid v (pos 256)) (pos 256))

-- Whether each name in an expression has a number.
abbrev pub knows : Numbers → Term → Bool
knows numbers (literal v) = true
knows numbers (name text) = is_some (numbers text)
knows numbers here = true
knows numbers (negated e) = knows numbers e
knows numbers (binary op a b) = knows numbers a && knows numbers b
knows numbers (low e) = knows numbers e
knows numbers (high e) = knows numbers e

-- An expression with an unknown name is not evaluated.
unfoldable pub eval_of : Numbers → ℤ → Term → Result ℤ ExprFault
eval_of numbers address e = if knows numbers e then value_of numbers address e else Err UnknownName
