-- Brackets, token by token.
use Rattle.std.proofs.Common.{◌≡◌, ◌∙◌, arith, ℕ, zero, suc, ◌+◌, ◌-◌, ◌<◌, ◌≤◌, ◌==◌, Bool, true, false, if◌then◌else◌, List, [], ◌∷◌, length, drop, take, get_or, Option, Some, None, refl, sym, ap}
use Rattle.std.proofs.lemmas.Bool.{ne_eqb}
use Rattle.std.proofs.lemmas.List.{drop_more, drop_all, take_all, length-drop}
use Rattle.std.specs.Str.{byte}
use Rattle.model.specs.Reading.{is_symbol}
use Rattle.line_parts.specs.Lexemes.{lexeme_of, lexemes}
use Rattle.line_parts.specs.declared.token.Token.{Token}
use Rattle.model.specs.Token.{Lexeme}
use Rattle.warnings.specs.Brackets.{behind_brackets, depth_behind}

-- a token behind which brackets are still to be closed
pub goes_on : (ts : List Token) (i depth next : ℕ) (d : Token) (total : Option (List Lexeme)) → i < length ts
    → next ≡ depth_behind depth (lexeme_of (get_or ts i d)) → (next ≡ 0 → ⊥)
    → behind_brackets depth (lexemes (drop i ts)) ≡ total → behind_brackets next (lexemes (drop (i + 1) ts)) ≡ total
unfolding behind_brackets
goes_on ts i depth next d total within told more so_far =
    let left : (depth_behind depth (lexeme_of (get_or ts i d)) == 0) ≡ false = sym (ap (λ (n : ℕ). n == 0) told) ∙ ne_eqb next 0 more in
    let opened : behind_brackets depth (lexemes (drop i ts))
    ≡ behind_brackets (depth_behind depth (lexeme_of (get_or ts i d))) (lexemes (drop (i + 1) ts)) = rw (drop_more ts i d within, left) refl in
    ap (λ (n : ℕ). behind_brackets n (lexemes (drop (i + 1) ts))) told ∙ sym opened ∙ so_far

rest_is : (n : ℕ) (ts : List Token) → take (length ts - n) (drop n ts) ≡ drop n ts
rest_is n ts = take_all (length ts - n) (drop n ts) (omega (arith, length-drop n ts))

-- the token that closes the last bracket
pub closes : (ts : List Token) (i depth next : ℕ) (d : Token) (total : Option (List Lexeme)) → i < length ts
    → next ≡ depth_behind depth (lexeme_of (get_or ts i d)) → next ≡ 0
    → behind_brackets depth (lexemes (drop i ts)) ≡ total → Some (lexemes (take (length ts - (i + 1)) (drop (i + 1) ts))) ≡ total
unfolding behind_brackets
closes ts i depth next d total within told none so_far =
    let left : (depth_behind depth (lexeme_of (get_or ts i d)) == 0) ≡ true = sym (ap (λ (n : ℕ). n == 0) told) ∙ ap (λ (n : ℕ). n == 0) none in
    let opened : behind_brackets depth (lexemes (drop i ts)) ≡ Some (lexemes (drop (i + 1) ts)) = rw (drop_more ts i d within, left) refl in
    ap (λ (x : List Token). Some (lexemes x)) (rest_is (i + 1) ts) ∙ sym opened ∙ so_far

-- no token is left
pub never_closed : (ts : List Token) (i depth : ℕ) (total : Option (List Lexeme)) → length ts ≤ i
    → behind_brackets depth (lexemes (drop i ts)) ≡ total → None ≡ total
unfolding behind_brackets
never_closed ts i depth total past so_far =
    let opened : behind_brackets depth (lexemes (drop i ts)) ≡ None = rw (drop_all i ts past) refl in
    sym opened ∙ so_far

one_more : (first second : Bool) (depth : ℕ) → (if first then depth + 1 else if second then depth - 1 else depth) ≤ depth + 1
one_more true second depth = omega arith
one_more false true depth = omega arith
one_more false false depth = omega arith

-- a token opens one bracket at most
pub few_more : (ts : List Token) (i depth next : ℕ) (d : Token) → next ≡ depth_behind depth (lexeme_of (get_or ts i d)) → depth ≤ i + 1 → next ≤ i + 1 + 1
few_more ts i depth next d told few =
    let t : Lexeme = lexeme_of (get_or ts i d) in
    omega (arith, told, few, one_more (is_symbol (byte "[") t) (is_symbol (byte "]") t) depth)

pub some_left : (n : ℕ) → (n ≡ 0 → ⊥) → 0 < n
some_left zero none = absurd (none refl)
some_left (suc n) none = omega arith
