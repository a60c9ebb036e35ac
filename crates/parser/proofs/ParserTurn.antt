-- One turn of the parser.
use Rattle.std.proofs.Common.{◌≡◌, ℕ, zero, suc, ◌+◌, ◌-◌, ◌<◌, List, None, Some, refl, arith}
use Rattle.model.specs.declared.expression.Operator.{Operator}
use Rattle.model.specs.Token.{Lexeme}
use Rattle.model.specs.Expression.{Term, binary}
use Rattle.model.specs.Reading.{Read, next_with, more_with, sum_with, inner_at}

-- ---- brackets inside brackets

pub inner_below : (d : ℕ) (ts : List Lexeme) → (d ≡ 0 → ⊥) → inner_at d ts ≡ sum_with (inner_at (d - 1)) ts
inner_below zero ts h = absurd (h refl)
inner_below (suc d) ts h = let e : suc d - 1 ≡ d = omega arith in rw e refl

-- ---- operators

pub more_step : (inner : List Lexeme → Read) (n i : ℕ) (e : Term) (ts : List Lexeme) (op : Operator) (b : Term) (rest : List Lexeme) → i < n
    → next_with inner ts ≡ Some (op, b, rest)
    → more_with inner (n - (i + 1)) (binary op e b) rest ≡ more_with inner (n - i) e ts
more_step inner n i e ts op b rest lt h =
    let s : n - i ≡ suc (n - (i + 1)) = omega arith in
    rw (s, h) refl

pub no_more : (inner : List Lexeme → Read) (n : ℕ) (e : Term) (ts : List Lexeme) → next_with inner ts ≡ None → more_with inner n e ts ≡ (e, ts)
no_more inner zero e ts h = refl
no_more inner (suc n) e ts h = rw h refl
