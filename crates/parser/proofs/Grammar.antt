-- What the grammar derives is found, whatever follows it.
use Rattle.std.proofs.Common.{◌≡◌, ◌≢◌, ℕ, zero, suc, ◌≤◌, ◌==◌, Bool, true, false, List, [], ◌∷◌, ◌++◌, length, Option, Some, None, refl, sym, ap, ◌∙◌, arith, append_assoc}
use Rattle.std.specs.Option.{option_map, option_map_or}
use Rattle.std.proofs.lemmas.Bool.{eq-eqb, eqb-true, ne_eqb}
use Rattle.std.proofs.lemmas.List.{length-append}
use Rattle.model.specs.declared.expression.Operator.{Operator}
use Rattle.model.specs.declared.expression.TokenKind.{TokenKind}
use Rattle.model.specs.declared.expression.TokenKind.TheVariants.{Word, Directive, Number, Char, Str, Symbol}
use Rattle.model.specs.Token.{Lexeme}
use Rattle.model.specs.Expression.{Term, negated, binary, low, high, symbol_in, symbol_of, operator_of, atom_in, atom_of, star_term, Level, primary, unary, sum, whole, Derives, atom, group, plain, minus, single, chain, bare, low_byte, high_byte, IsExpression}
use Rattle.model.specs.Reading.{Read, is_symbol, primary_with, unary_with, more_with, sum_with, inner_at, whole_with}

pub is_symbol_from : (b : ℕ) (t : Lexeme) → symbol_of t ≡ Some b → is_symbol b t ≡ true
is_symbol_from b t e = rw e (eq-eqb b b refl)

not_symbol_from : (b : ℕ) (o : Option ℕ) → o ≢ Some b → option_map_or (λ s. s == b) o false ≡ false
not_symbol_from b None n = refl
not_symbol_from b (Some x) n = ne_eqb x b (λ e. n (ap Some e))

abbrev none_term : Option Term
none_term = None

none_some : {e : Term} → none_term ≡ Some e → ⊥
none_some h = cc

abbrev none_read : Read
none_read = None

pub none_read_some : {p : Term × List Lexeme} → none_read ≡ Some p → ⊥
none_read_some h = cc

-- a symbol other than `*` is no expression by itself
symbol_is_no_atom : (b : ℕ) → star_term b ≡ None → (k : TokenKind) (text : List ℕ) → symbol_in k text ≡ Some b → atom_in k text ≡ None
symbol_is_no_atom b n Word text h = absurd cc
symbol_is_no_atom b n Directive text h = absurd cc
symbol_is_no_atom b n Number text h = absurd cc
symbol_is_no_atom b n Char text h = absurd cc
symbol_is_no_atom b n Str text h = absurd cc
symbol_is_no_atom b n Symbol text h = rw h n

-- an expression by itself is no such symbol
other_symbol : (b : ℕ) → star_term b ≡ None → (t : Lexeme) (e : Term) → atom_of t ≡ Some e → is_symbol b t ≡ false
other_symbol b n t e h = not_symbol_from b (symbol_of t) (λ q. none_some (sym (symbol_is_no_atom b n t.kind t.text q) ∙ h))

-- ---- what the parser gives in front of rest

abbrev pub Finds : Level → ℕ → Term → List Lexeme → Type 0
Finds primary d e ts = (rest : List Lexeme) → primary_with (inner_at d) (ts ++ rest) ≡ Some (e, rest)
Finds unary d e ts = (rest : List Lexeme) → unary_with (inner_at d) (ts ++ rest) ≡ Some (e, rest)
Finds sum d e ts = (rest : List Lexeme) → (n : ℕ) × (length rest ≤ n) × (sum_with (inner_at d) (ts ++ rest) ≡ Some (more_with (inner_at d) n e rest))
Finds whole d e ts = Unit {0}

-- a closing bracket is no operator
stops : (inner : List Lexeme → Read) (n : ℕ) (e : Term) (t : Lexeme) (ts : List Lexeme) → operator_of t ≡ None → more_with inner n e (t ∷ ts) ≡ (e, t ∷ ts)
stops inner zero e t ts h = refl
stops inner (suc n) e t ts h = rw h refl

close_is_no_operator : (t : Lexeme) → symbol_of t ≡ Some 93 → operator_of t ≡ None
close_is_no_operator t e = rw e refl

finds_atom : (d : ℕ) (t : Lexeme) (e : Term) → atom_of t ≡ Some e → Finds primary d e (t ∷ [])
finds_atom d t e h rest = rw (other_symbol 91 refl t e h, h) refl

finds_group : (d : ℕ) (t close : Lexeme) (e : Term) (ts : List Lexeme) → symbol_of t ≡ Some 91 → symbol_of close ≡ Some 93 → Finds sum d e ts
    → Finds primary (suc d) e (t ∷ ts ++ close ∷ [])
finds_group d t close e ts o c f rest =
    let p = f (close ∷ rest) in
    let q : sum_with (inner_at d) (ts ++ close ∷ rest) ≡ Some (e, close ∷ rest) =
    p.2 ∙ ap Some (stops (inner_at d) p.0 e close rest (close_is_no_operator close c)) in
    rw (is_symbol_from 91 t o, append_assoc ts (close ∷ []) rest, q, is_symbol_from 93 close c) refl

-- a primary that stands alone is a unary
atom_unary : (d : ℕ) (t : Lexeme) (e : Term) → atom_of t ≡ Some e → Finds unary d e (t ∷ [])
atom_unary d t e h rest = rw (other_symbol 45 refl t e h) (finds_atom d t e h rest)

group_unary : (d : ℕ) (t u : Lexeme) (e : Term) (ts : List Lexeme) → symbol_of t ≡ Some 91 → symbol_of u ≡ Some 93 → Finds sum d e ts
    → Finds unary (suc d) e (t ∷ ts ++ u ∷ [])
group_unary d t u e ts o c f rest =
    let m : is_symbol 45 t ≡ false = rw o refl in
    rw m (finds_group d t u e ts o c f rest)

finds_minus : (d : ℕ) (t : Lexeme) (e : Term) (ts : List Lexeme) → symbol_of t ≡ Some 45 → Finds primary d e ts → Finds unary d (negated e) (t ∷ ts)
finds_minus d t e ts h f rest = rw (is_symbol_from 45 t h, f rest) refl

finds_single : (d : ℕ) (e : Term) (ts : List Lexeme) → Finds unary d e ts → Finds sum d e ts
finds_single d e ts f rest = (length rest, omega arith, ap (option_map (λ p. more_with (inner_at d) (length p.1) p.0 p.1)) (f rest))

finds_chain : (d : ℕ) (t : Lexeme) (op : Operator) (a b : Term) (ls rs : List Lexeme) → operator_of t ≡ Some op → Finds sum d a ls
    → Finds unary d b rs → Finds sum d (binary op a b) (ls ++ t ∷ rs)
finds_chain d t op a b ls rs h f g rest = go (f (t ∷ (rs ++ rest))).0 (f (t ∷ (rs ++ rest))).1 (f (t ∷ (rs ++ rest))).2 where
  go : (n : ℕ) → length (t ∷ (rs ++ rest)) ≤ n → sum_with (inner_at d) (ls ++ t ∷ (rs ++ rest)) ≡ Some (more_with (inner_at d) n a (t ∷ (rs ++ rest)))
      → (m : ℕ) × (length rest ≤ m) × (sum_with (inner_at d) ((ls ++ t ∷ rs) ++ rest) ≡ Some (more_with (inner_at d) m (binary op a b) rest))
  go zero le e = absurd (omega arith)
  go (suc n) le e = (n, omega (arith, length-append rs rest), ap (sum_with (inner_at d)) (append_assoc ls (t ∷ rs) rest) ∙ e ∙ ap Some (rw (h, g rest) refl))

mutual
  pub finds_primary : {d : ℕ} {e : Term} {ts : List Lexeme} → Derives primary d e ts → Finds primary d e ts
  finds_primary (atom {d = d} t {e = e} h) = finds_atom d t e h
  finds_primary (group {d = d} t u {e = e} {ts = ts} o c h) = finds_group d t u e ts o c (finds_sum h)

  pub finds_as_unary : {d : ℕ} {e : Term} {ts : List Lexeme} → Derives primary d e ts → Finds unary d e ts
  finds_as_unary (atom {d = d} t {e = e} h) = atom_unary d t e h
  finds_as_unary (group {d = d} t u {e = e} {ts = ts} o c h) = group_unary d t u e ts o c (finds_sum h)

  pub finds_unary : {d : ℕ} {e : Term} {ts : List Lexeme} → Derives unary d e ts → Finds unary d e ts
  finds_unary (plain h) = finds_as_unary h
  finds_unary (minus {d = d} t {e = e} {ts = ts} s h) = finds_minus d t e ts s (finds_primary h)

  pub finds_sum : {d : ℕ} {e : Term} {ts : List Lexeme} → Derives sum d e ts → Finds sum d e ts
  finds_sum (single {d = d} {e = e} {ts = ts} h) = finds_single d e ts (finds_unary h)
  finds_sum (chain {d = d} t {op = op} {a = a} {b = b} {ls = ls} {rs = rs} o h k) = finds_chain d t op a b ls rs o (finds_sum h) (finds_unary k)

-- ---- a whole expression

-- a sum does not begin with a symbol other than `*`, `[` and `-`
sum_begins : (inner : List Lexeme → Read) (b : ℕ) (t : Lexeme) (ts : List Lexeme) → star_term b ≡ None → (b == 91) ≡ false → (b == 45) ≡ false
    → symbol_of t ≡ Some b → sum_with inner (t ∷ ts) ≡ None
sum_begins inner b t ts n g m h =
    let minus : is_symbol 45 t ≡ false = rw h m in
    let group : is_symbol 91 t ≡ false = rw h g in
    rw (minus, group, symbol_is_no_atom b n t.kind t.text h) refl

pub is_symbol_back : (b : ℕ) (o : Option ℕ) → option_map_or (λ s. s == b) o false ≡ true → o ≡ Some b
is_symbol_back b None h = absurd (no_yes h) where
  no_yes : false ≡ true → ⊥
  no_yes h = cc
is_symbol_back b (Some x) h = ap Some (eqb-true x b h)

no_such_sum : (inner : List Lexeme → Read) (b : ℕ) (t : Lexeme) (ts : List Lexeme) (p : Term × List Lexeme) → star_term b ≡ None → (b == 91) ≡ false
    → (b == 45) ≡ false
    → is_symbol b t ≡ true → sum_with inner (t ∷ ts) ≡ Some p → ⊥
no_such_sum inner b t ts p n g m s h = none_read_some (sym (sum_begins inner b t ts n g m (is_symbol_back b (symbol_of t) s)) ∙ h)

pub whole_of_sum : (inner : List Lexeme → Read) (ts : List Lexeme) (p : Term × List Lexeme) → sum_with inner ts ≡ Some p → whole_with inner ts ≡ Some p
whole_of_sum inner [] p h = h
whole_of_sum inner (t ∷ ts) p h = go (is_symbol 60 t) (is_symbol 62 t) refl refl where
  go : (l g : Bool) → is_symbol 60 t ≡ l → is_symbol 62 t ≡ g → whole_with inner (t ∷ ts) ≡ Some p
  go true g x y = absurd (no_such_sum inner 60 t ts p refl refl refl x h)
  go false true x y = absurd (no_such_sum inner 62 t ts p refl refl refl y h)
  go false false x y = rw (x, y) h

-- what the parser gives of a whole expression in front of rest: the sum in it, and more that
-- follows
pub record FindsWhole (e : Term) (ts : List Lexeme) (rest : List Lexeme) : Type 0 where
  pub count : ℕ
  pub inside : Term
  pub around : Term → Term
  pub is : e ≡ around inside
  pub found : whole_with (inner_at 8) (ts ++ rest) ≡ Some (around (more_with (inner_at 8) count inside rest).0, (more_with (inner_at 8) count inside rest).1)

finds_bare : (e : Term) (ts : List Lexeme) → Finds sum 8 e ts → (rest : List Lexeme) → FindsWhole e ts rest
finds_bare e ts f rest = record {
  count = (f rest).0;
  inside = e;
  around = λ x. x;
  is = refl;
  found = whole_of_sum (inner_at 8) (ts ++ rest) (more_with (inner_at 8) (f rest).0 e rest) (f rest).2;
}

finds_low : (t : Lexeme) (e : Term) (ts : List Lexeme) → symbol_of t ≡ Some 60 → Finds sum 8 e ts → (rest : List Lexeme) → FindsWhole (low e) (t ∷ ts) rest
finds_low t e ts h f rest = record {
  count = (f rest).0;
  inside = e;
  around = low;
  is = refl;
  found = rw (is_symbol_from 60 t h, (f rest).2) refl;
}

finds_high : (t : Lexeme) (e : Term) (ts : List Lexeme) → symbol_of t ≡ Some 62 → Finds sum 8 e ts → (rest : List Lexeme) → FindsWhole (high e) (t ∷ ts) rest
finds_high t e ts h f rest =
    let not_low : is_symbol 60 t ≡ false = rw h refl in
    record {
      count = (f rest).0;
      inside = e;
      around = high;
      is = refl;
      found = rw (not_low, is_symbol_from 62 t h, (f rest).2) refl;
    }

pub finds_whole : {e : Term} {ts : List Lexeme} → IsExpression e ts → (rest : List Lexeme) → FindsWhole e ts rest
finds_whole (bare {e = e} {ts = ts} h) rest = finds_bare e ts (finds_sum h) rest
finds_whole (low_byte t {e = e} {ts = ts} s h) rest = finds_low t e ts s (finds_sum h) rest
finds_whole (high_byte t {e = e} {ts = ts} s h) rest = finds_high t e ts s (finds_sum h) rest
