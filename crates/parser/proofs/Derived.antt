-- What is found is derived by the grammar.
use Rattle.std.proofs.Common.{◌≡◌, ℕ, zero, suc, Bool, true, false, List, [], ◌∷◌, ◌++◌, length, Option, Some, None, refl, sym, ap, ◌∙◌, subst, append_assoc}
use Rattle.std.specs.Option.{option_map, option_and_then}
use Rattle.model.specs.declared.expression.Operator.{Operator}
use Rattle.model.specs.Token.{Lexeme}
use Rattle.model.specs.Expression.{Term, negated, binary, low, high, symbol_of, operator_of, atom_of, Level, primary, unary, sum, whole, Derives, atom, group, plain, minus, single, chain, bare, low_byte, high_byte}
use Rattle.model.specs.Reading.{Read, is_symbol, closed_by, primary_with, unary_with, next_with, went_on, more_with, sum_with, inner_at, whole_with}
use Rattle.parser.proofs.Grammar.{is_symbol_back}

-- These tokens begin with an expression of a level, and the rest is left.
pub record Spelled (l : Level) (d : ℕ) (e : Term) (tokens rest : List Lexeme) : Type 0 where
  pub front : List Lexeme
  pub cut : tokens ≡ front ++ rest
  pub derived : Derives l d e front

-- What stands inside a bracket makes a primary of this depth.
pub record Bracketed (d : ℕ) (e : Term) (tokens rest : List Lexeme) : Type 0 where
  pub front : List Lexeme
  pub cut : tokens ≡ front ++ rest
  pub enclosed : (t u : Lexeme) → symbol_of t ≡ Some 91 → symbol_of u ≡ Some 93 → Derives primary d e (t ∷ front ++ u ∷ [])

-- What was read is of a level.
abbrev Of : Level → ℕ → List Lexeme → Read → Type 0
Of l d tokens None = Unit {0}
Of l d tokens (Some p) = Spelled l d p.0 tokens p.1

abbrev pub Inside : ℕ → List Lexeme → Read → Type 0
Inside d tokens None = Unit {0}
Inside d tokens (Some p) = Bracketed d p.0 tokens p.1

abbrev pub Inner : ℕ → (List Lexeme → Read) → Type 0
Inner d inner = (tokens : List Lexeme) → Inside d tokens (inner tokens)

-- ---- primaries

closed_derived : (d : ℕ) (t : Lexeme) (tokens : List Lexeme) (r : Read) → symbol_of t ≡ Some 91 → Inside d tokens r
    → Of primary d (t ∷ tokens) (option_and_then (λ p. closed_by p.0 p.1) r)
closed_derived d t tokens None o h = tt
closed_derived d t tokens (Some p) o h = go p.1 h.cut where
  go : (rest : List Lexeme) → tokens ≡ h.front ++ rest → Of primary d (t ∷ tokens) (closed_by p.0 rest)
  go [] e = tt
  go (u ∷ us) e = choose (is_symbol 93 u) refl where
    choose : (b : Bool) → is_symbol 93 u ≡ b → Of primary d (t ∷ tokens) (closed_by p.0 (u ∷ us))
    choose false x = rw x tt
    choose true x = rw x (record {
      front = t ∷ h.front ++ u ∷ [];
      cut = ap (λ xs. t ∷ xs) (e ∙ sym (append_assoc h.front (u ∷ []) us));
      derived = h.enclosed t u o (is_symbol_back 93 (symbol_of u) x);
    })

atom_derived : (d : ℕ) (t : Lexeme) (ts : List Lexeme) (o : Option Term) → atom_of t ≡ o → Of primary d (t ∷ ts) (option_map (λ e. (e, ts)) o)
atom_derived d t ts None h = tt
atom_derived d t ts (Some e) h = record { front = t ∷ []; cut = refl; derived = atom t h }

primary_derived : (d : ℕ) (inner : List Lexeme → Read) → Inner d inner → (tokens : List Lexeme) → Of primary d tokens (primary_with inner tokens)
primary_derived d inner h [] = tt
primary_derived d inner h (t ∷ ts) = go (is_symbol 91 t) refl where
  go : (b : Bool) → is_symbol 91 t ≡ b → Of primary d (t ∷ ts) (primary_with inner (t ∷ ts))
  go true x = rw x (closed_derived d t ts (inner ts) (is_symbol_back 91 (symbol_of t) x) (h ts))
  go false x = rw x (atom_derived d t ts (atom_of t) refl)

-- ---- unaries

plain_derived : (d : ℕ) (tokens : List Lexeme) (r : Read) → Of primary d tokens r → Of unary d tokens r
plain_derived d tokens None h = tt
plain_derived d tokens (Some p) h = record { front = h.front; cut = h.cut; derived = plain h.derived }

minus_derived : (d : ℕ) (t : Lexeme) (tokens : List Lexeme) (r : Read) → symbol_of t ≡ Some 45 → Of primary d tokens r
    → Of unary d (t ∷ tokens) (option_map (λ p. (negated p.0, p.1)) r)
minus_derived d t tokens None o h = tt
minus_derived d t tokens (Some p) o h = record { front = t ∷ h.front; cut = ap (λ xs. t ∷ xs) h.cut; derived = minus t o h.derived }

unary_derived : (d : ℕ) (inner : List Lexeme → Read) → Inner d inner → (tokens : List Lexeme) → Of unary d tokens (unary_with inner tokens)
unary_derived d inner h [] = tt
unary_derived d inner h (t ∷ ts) = go (is_symbol 45 t) refl where
  go : (b : Bool) → is_symbol 45 t ≡ b → Of unary d (t ∷ ts) (unary_with inner (t ∷ ts))
  go true x = rw x (minus_derived d t ts (primary_with inner ts) (is_symbol_back 45 (symbol_of t) x) (primary_derived d inner h ts))
  go false x = rw x (plain_derived d (t ∷ ts) (primary_with inner (t ∷ ts)) (primary_derived d inner h (t ∷ ts)))

-- ---- sums

-- an operator and its right side make a longer sum
abbrev pub Longer : ℕ → List Lexeme → Option (Operator × Term × List Lexeme) → Type 0
Longer d tokens None = Unit {0}
Longer d tokens (Some q) = (front : List Lexeme) × (tokens ≡ front ++ q.2)
    × ((a : Term) (ls : List Lexeme) → Derives sum d a ls → Derives sum d (binary q.0 a q.1) (ls ++ front))

right_derived : (d : ℕ) (t : Lexeme) (ts : List Lexeme) (op : Operator) (r : Read) → operator_of t ≡ Some op → Of unary d ts r
    → Longer d (t ∷ ts) (option_map (λ p. (op, p.0, p.1)) r)
right_derived d t ts op None o h = tt
right_derived d t ts op (Some p) o h = (t ∷ h.front, ap (λ xs. t ∷ xs) h.cut, λ a ls k. chain t o k h.derived)

pub next_derived : (d : ℕ) (inner : List Lexeme → Read) → Inner d inner → (tokens : List Lexeme) → Longer d tokens (next_with inner tokens)
next_derived d inner h [] = tt
next_derived d inner h (t ∷ ts) = go (operator_of t) refl where
  go : (o : Option Operator) → operator_of t ≡ o → Longer d (t ∷ ts) (option_and_then (λ op. option_map (λ p. (op, p.0, p.1)) (unary_with inner ts)) o)
  go None x = tt
  go (Some op) x = right_derived d t ts op (unary_with inner ts) x (unary_derived d inner h ts)

more_derived : (d : ℕ) (inner : List Lexeme → Read) → Inner d inner → (n : ℕ) (e : Term) (front tokens : List Lexeme) → Derives sum d e front
    → Spelled sum d (more_with inner n e tokens).0 (front ++ tokens) (more_with inner n e tokens).1
more_derived d inner h zero e front tokens k = record { front = front; cut = refl; derived = k }
more_derived d inner h (suc n) e front tokens k = go (next_with inner tokens) (next_derived d inner h tokens)
    (λ x xs ts y. more_derived d inner h n x xs ts y) where
      go : (o : Option (Operator × Term × List Lexeme)) → Longer d tokens o
          → ((x : Term) (xs ts : List Lexeme) → Derives sum d x xs → Spelled sum d (more_with inner n x ts).0 (xs ++ ts) (more_with inner n x ts).1)
          → Spelled sum d (went_on (λ x xs. more_with inner n x xs) e tokens o).0 (front ++ tokens) (went_on (λ x xs. more_with inner n x xs) e tokens o).1
      go None l again = record { front = front; cut = refl; derived = k }
      go (Some q) l again =
          let s = again (binary q.0 e q.1) (front ++ l.0) q.2 (l.2 e front k) in
          record { front = s.front; cut = ap (λ xs. front ++ xs) l.1 ∙ sym (append_assoc front l.0 q.2) ∙ s.cut; derived = s.derived }

sum_of_unary : (d : ℕ) (inner : List Lexeme → Read) → Inner d inner → (tokens : List Lexeme) (r : Read) → Of unary d tokens r
    → Of sum d tokens (option_map (λ p. more_with inner (length p.1) p.0 p.1) r)
sum_of_unary d inner h tokens None u = tt
sum_of_unary d inner h tokens (Some p) u =
    let s = more_derived d inner h (length p.1) p.0 u.front p.1 (single u.derived) in
    record { front = s.front; cut = u.cut ∙ s.cut; derived = s.derived }

sum_derived : (d : ℕ) (inner : List Lexeme → Read) → Inner d inner → (tokens : List Lexeme) → Of sum d tokens (sum_with inner tokens)
sum_derived d inner h tokens = sum_of_unary d inner h tokens (unary_with inner tokens) (unary_derived d inner h tokens)

-- ---- brackets

bracketed : (d : ℕ) (tokens : List Lexeme) (r : Read) → Of sum d tokens r → Inside (suc d) tokens r
bracketed d tokens None h = tt
bracketed d tokens (Some p) h = record { front = h.front; cut = h.cut; enclosed = λ t u o c. group t u o c h.derived }

pub inside_at : (d : ℕ) → Inner d (inner_at d)
inside_at zero tokens = tt
inside_at (suc d) tokens = bracketed d tokens (sum_with (inner_at d) tokens) (sum_derived d (inner_at d) (inside_at d) tokens)

-- ---- whole expressions

bare_derived : (d : ℕ) (tokens : List Lexeme) (r : Read) → Of sum d tokens r → Of whole d tokens r
bare_derived d tokens None h = tt
bare_derived d tokens (Some p) h = record { front = h.front; cut = h.cut; derived = bare h.derived }

low_derived : (d : ℕ) (t : Lexeme) (tokens : List Lexeme) (r : Read) → symbol_of t ≡ Some 60 → Of sum d tokens r
    → Of whole d (t ∷ tokens) (option_map (λ p. (low p.0, p.1)) r)
low_derived d t tokens None o h = tt
low_derived d t tokens (Some p) o h = record { front = t ∷ h.front; cut = ap (λ xs. t ∷ xs) h.cut; derived = low_byte t o h.derived }

high_derived : (d : ℕ) (t : Lexeme) (tokens : List Lexeme) (r : Read) → symbol_of t ≡ Some 62 → Of sum d tokens r
    → Of whole d (t ∷ tokens) (option_map (λ p. (high p.0, p.1)) r)
high_derived d t tokens None o h = tt
high_derived d t tokens (Some p) o h = record { front = t ∷ h.front; cut = ap (λ xs. t ∷ xs) h.cut; derived = high_byte t o h.derived }

whole_derived : (d : ℕ) (tokens : List Lexeme) → Of whole d tokens (whole_with (inner_at d) tokens)
whole_derived d [] = tt
whole_derived d (t ∷ ts) = go (is_symbol 60 t) (is_symbol 62 t) refl refl where
  sums : (xs : List Lexeme) → Of sum d xs (sum_with (inner_at d) xs)
  sums xs = sum_derived d (inner_at d) (inside_at d) xs

  go : (l g : Bool) → is_symbol 60 t ≡ l → is_symbol 62 t ≡ g → Of whole d (t ∷ ts) (whole_with (inner_at d) (t ∷ ts))
  go true g x y = rw x (low_derived d t ts (sum_with (inner_at d) ts) (is_symbol_back 60 (symbol_of t) x) (sums ts))
  go false true x y = rw (x, y) (high_derived d t ts (sum_with (inner_at d) ts) (is_symbol_back 62 (symbol_of t) y) (sums ts))
  go false false x y = rw (x, y) (bare_derived d (t ∷ ts) (sum_with (inner_at d) (t ∷ ts)) (sums (t ∷ ts)))

-- What is found of a whole expression is derived.
pub found_derived : (tokens : List Lexeme) (e : Term) (rest : List Lexeme) → whole_with (inner_at 8) tokens ≡ Some (e, rest) → Spelled whole 8 e tokens rest
found_derived tokens e rest h = subst (Of whole 8 tokens) h (whole_derived 8 tokens)
