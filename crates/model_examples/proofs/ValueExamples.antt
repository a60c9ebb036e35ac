-- Worked examples of expressions, computed from the definitions.
use Rattle.std.proofs.Common.{◌≡◌, ℕ, ℤ, pos, negsuc, List, length, Option, Some, None, Result, Ok, Err, refl, codes}
use Rattle.std.specs.Option.{option_map, option_and_then}
use Rattle.model.specs.declared.expression.ExprFault.{ExprFault}
use Rattle.model.specs.declared.expression.ExprFault.TheVariants.{UnknownName, Range, DivideByZero}
use Rattle.model.specs.Token.{tokens_of, tokens_from, token_at}
use Rattle.model.specs.Reading.{expression_of}
use Rattle.model.specs.Value.{eval_of}

-- A value or a fault, and how many tokens are left; nothing where no beginning is an expression.
abbrev Valued : Type 0
Valued = Option (Result ℤ ExprFault × ℕ)

-- The value of a text where no name has a number, on a line at address 512, and how many tokens are
-- left after the expression.
value : List ℕ → Valued
unfolding tokens_of tokens_from token_at expression_of eval_of
value text = option_and_then (λ ts. option_map (λ p. (eval_of (λ n. None) (pos 512) p.0, length p.1)) (expression_of ts)) (tokens_of text)

abbrev is : ℤ → Valued
is n = Some (Ok n, 0)

abbrev fails : ExprFault → Valued
fails f = Some (Err f, 0)

abbrev leaves : ℤ → ℕ → Valued
leaves n left = Some (Ok n, left)

abbrev is_none : Valued
is_none = None

-- ---- operators are strictly from left to right

left_to_right : value (codes "2+3*4") ≡ is (pos 20)
unfolding value
left_to_right = refl

in_brackets : value (codes "2+[3*4]") ≡ is (pos 14)
unfolding value
in_brackets = refl

five_less_minus_three : value (codes "5--3") ≡ is (pos 8)
unfolding value
five_less_minus_three = refl

cut_toward_zero : value (codes "-7/2") ≡ is (negsuc 2)
unfolding value
cut_toward_zero = refl

address_squared : value (codes "***") ≡ is (pos 262144)
unfolding value
address_squared = refl

-- ---- `<` and `>` take a byte of the whole

low_of_whole : value (codes "<$1234+1") ≡ is (pos 53)
unfolding value
low_of_whole = refl

high_of_whole : value (codes ">$12FF+1") ≡ is (pos 19)
unfolding value
high_of_whole = refl

low_of_negative : value (codes "<-1") ≡ is (pos 255)
unfolding value
low_of_negative = refl

high_of_negative : value (codes ">-1") ≡ is (pos 255)
unfolding value
high_of_negative = refl

-- ---- literals

char_value : value (codes "'A'") ≡ is (pos 65)
unfolding value
char_value = refl

bits_value : value (codes "%101") ≡ is (pos 5)
unfolding value
bits_value = refl

lower_case_hex : value (codes "$ff") ≡ is (pos 255)
unfolding value
lower_case_hex = refl

greatest : value (codes "2147483647") ≡ is (pos 2147483647)
unfolding value
greatest = refl

least : value (codes "-2147483647-1") ≡ is (negsuc 2147483647)
unfolding value
least = refl

past_literal : value (codes "-2147483648") ≡ fails Range
unfolding value
past_literal = refl

-- ---- the first fault from left to right, an operator's own after those of both its operands

right_operand_first : value (codes "65536&[1/0]") ≡ fails DivideByZero
unfolding value
right_operand_first = refl

operator_before : value (codes "65536&1/0") ≡ fails Range
unfolding value
operator_before = refl

quotient_before : value (codes "1/0+2147483648") ≡ fails DivideByZero
unfolding value
quotient_before = refl

literal_before : value (codes "2147483648+1/0") ≡ fails Range
unfolding value
literal_before = refl

least_by_minus_one : value (codes "[-2147483647-1]/-1") ≡ fails Range
unfolding value
least_by_minus_one = refl

unknown_before : value (codes "1/0+there") ≡ fails UnknownName
unfolding value
unknown_before = refl

-- ---- the longest beginning

operator_left : value (codes "5+") ≡ leaves (pos 5) 1
unfolding value
operator_left = refl

no_low_inside : value (codes "5+<6") ≡ leaves (pos 5) 3
unfolding value
no_low_inside = refl

eight_brackets : value (codes "[[[[[[[[1]]]]]]]]") ≡ is (pos 1)
unfolding value
eight_brackets = refl

nine_brackets_left : value (codes "1+[[[[[[[[[1]]]]]]]]]") ≡ leaves (pos 1) 20
unfolding value
nine_brackets_left = refl

nine_brackets : value (codes "[[[[[[[[[1]]]]]]]]]") ≡ is_none
unfolding value
nine_brackets = refl

two_minus : value (codes "--5") ≡ is_none
unfolding value
two_minus = refl

low_twice : value (codes "<<5") ≡ is_none
unfolding value
low_twice = refl
