-- The words A, X and Y among the reserved words.
use Rattle.std.proofs.Common.{◌≡◌, ◌∙◌, ℕ, Bool, true, false, List, [], ◌∷◌, refl, ap}
use Rattle.std.specs.Prelude.{◌||◌, ◌&&◌, ◌==◌, codes, is_some}
use Rattle.std.specs.Char.{to_ascii_uppercase}
use Rattle.std.specs.Str.{bytes_eq, str_to_ascii_uppercase}
use Rattle.model.specs.Mnemonics.{mnemonic_named}
use Rattle.model.specs.SourceLine.{is_reserved}
use Rattle.model.specs.declared.instruction.Profile.{Profile}
use Rattle.name_uses.specs.Registers.{is_register}

and-true : (b : Bool) → (b && true) ≡ b
and-true true = refl
and-true false = refl

and-false : (b : Bool) → (b && false) ≡ false
and-false true = refl
and-false false = refl

or_three : (a b c x y z : Bool) → a ≡ x → b ≡ y → c ≡ z → (a || b || c) ≡ (x || y || z)
or_three a b c x y z p q r = rw (p, q, r) refl

abbrev is_a : List ℕ → Bool
is_a text = bytes_eq (str_to_ascii_uppercase text) (codes "A")

abbrev is_x : List ℕ → Bool
is_x text = bytes_eq (str_to_ascii_uppercase text) (codes "X")

abbrev is_y : List ℕ → Bool
is_y text = bytes_eq (str_to_ascii_uppercase text) (codes "Y")

registers : (text : List ℕ) → (is_a text || is_x text || is_y text) ≡ is_register text
registers [] = refl
registers (b ∷ []) = or_three _ _ _ _ _ _ (and-true (to_ascii_uppercase b == 65)) (and-true (to_ascii_uppercase b == 88))
    (and-true (to_ascii_uppercase b == 89))
registers (b ∷ c ∷ text) = or_three _ _ _ false false false (and-false (to_ascii_uppercase b == 65)) (and-false (to_ascii_uppercase b == 88))
    (and-false (to_ascii_uppercase b == 89))

grouped : (m a x y : Bool) → (m || a || x || y) ≡ (m || (a || x || y))
grouped true a x y = refl
grouped false a x y = refl

-- a reserved word is a mnemonic or one of the three
pub reserved_by : (profile : Profile) (text : List ℕ) → is_reserved profile text ≡ (is_some (mnemonic_named profile text) || is_register text)
unfolding is_reserved
reserved_by profile text = grouped (is_some (mnemonic_named profile text)) (is_a text) (is_x text) (is_y text)
    ∙ ap (λ (b : Bool). is_some (mnemonic_named profile text) || b) (registers text)
