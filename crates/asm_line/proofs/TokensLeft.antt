-- Tokens after what was read.
use Rattle.std.proofs.Common.{◌≡◌, ℕ, zero, suc, ◌-◌, Bool, List, [], ◌∷◌, refl, ap, sym, ◌∙◌, take, drop, length, length-drop, arith}
use Rattle.std.specs.Prelude.{map, ◌||◌, Option, None, Result, Ok, Err, IsErrAnd}
use Rattle.std.specs.List.{list_any}
use Rattle.std.proofs.lemmas.List.{take_all}
use Rattle.line_parts.specs.declared.token.Token.{Token}
use Rattle.line_parts.specs.Lexemes.{lexemes}
use Rattle.model.specs.declared.expression.LineFault.{LineFault}
use Rattle.model.specs.declared.expression.LineFault.TheVariants.{Syntax, OutOfMemory}
use Rattle.line_parts.specs.LineViews.{Reads}

-- tokens dropped with or without where they lie
pub lexemes_drop : (n : ℕ) (ts : List Token) → lexemes (drop n ts) ≡ drop n (lexemes ts)
lexemes_drop zero ts = refl
lexemes_drop (suc n) [] = refl
lexemes_drop (suc n) (t ∷ ts) = lexemes_drop n ts

-- the tokens after the first n
pub lexemes_after : (n : ℕ) (ts : List Token) → lexemes (take (length ts - n) (drop n ts)) ≡ drop n (lexemes ts)
lexemes_after n ts =
    let all : take (length ts - n) (drop n ts) ≡ drop n ts = take_all _ (drop n ts) (omega (arith, length-drop n ts)) in
    ap lexemes all ∙ lexemes_drop n ts

-- a test of what a function makes of the items
pub list_any_map : {A B : Type 0} (test : B → Bool) (shown : A → B) (xs : List A) → list_any test (map shown xs) ≡ list_any (λ x. test (shown x)) xs
list_any_map test shown [] = refl
list_any_map test shown (x ∷ xs) = ap (λ b. test (shown x) || b) (list_any_map test shown xs)

-- a fault that is passed on
pub passed_on : {A B : Type 0} (shown : A → B) (found : Option B) (r : Result A LineFault) (f : LineFault) → IsErrAnd r (λ e. e ≡ f)
    → (f ≡ Syntax → found ≡ None) → Reads shown r found
passed_on shown found (Ok a) f same none = absurd same
passed_on shown found (Err Syntax) f same none = none (sym same)
passed_on shown found (Err OutOfMemory) f same none = tt

-- nothing is found where the fault is Syntax
pub fault_read : {A B : Type 0} (shown : A → B) (found : Option B) (f : LineFault) → Reads shown (Err f) found → f ≡ Syntax → found ≡ None
fault_read shown found Syntax none same = none
fault_read shown found OutOfMemory none same = absurd (cc)
