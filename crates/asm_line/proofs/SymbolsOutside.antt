-- Symbols that stand in no expression, so that an expression ends before them.
use Rattle.std.proofs.Common.{◌≡◌, ℕ, ◌≤◌, ◌<◌, Bool, true, false, List, [], ◌∷◌, ◌++◌, length, Option, Some, None, refl, sym, ap, ◌∙◌, subst, arith, append-nil, eq-eqb, inl, inr}
use Rattle.std.specs.Prelude.{⊤, ◌==◌, ◌&&◌, IfSome, IfNone, codes}
use Rattle.std.specs.Option.{option_and_then, option_map_or}
use Rattle.std.proofs.lemmas.Bool.{cases_Bool, eqb-true}
use Rattle.model.specs.declared.expression.TokenKind.{TokenKind}
use Rattle.model.specs.declared.expression.TokenKind.TheVariants.{Word, Directive, Number, Char, Str, Symbol}
use Rattle.model.specs.declared.expression.Operator.{Operator}
use Rattle.model.specs.Token.{Lexeme}
use Rattle.model.specs.Expression.{Term, symbol_in, symbol_of, operator_for, operator_of, star_term, atom_in, Level, Derives, atom, group, plain, minus, single, chain, bare, low_byte, high_byte, IsExpression, Longest, OneExpression}
use Rattle.model.specs.Reading.{ReadsLongest, Read, is_symbol, expression_of}
use Rattle.model.specs.SourceLine.{is_alone, is_word, whole_expression}

-- ---- symbols

abbrev none : Option ℕ
none = None

some_same : (a b : ℕ) → Some a ≡ Some b → a ≡ b
some_same a b e = cc

pub two_symbols : (t : Lexeme) (a b : ℕ) → (a == b) ≡ false → symbol_of t ≡ Some a → symbol_of t ≡ Some b → ⊥
two_symbols t a b differ h k =
    let same : a ≡ b = some_same a b (sym h ∙ k) in
    let bad : true ≡ false = sym (eq-eqb a b same) ∙ differ in cc

pub symbol_is : (t : Lexeme) (b : ℕ) → symbol_of t ≡ Some b → is_symbol b t ≡ true
symbol_is t b h = rw h (eq-eqb b b refl)

pub symbol_other : (t : Lexeme) (a b : ℕ) → (a == b) ≡ false → symbol_of t ≡ Some a → is_symbol b t ≡ false
symbol_other t a b differ h = rw h differ

pub symbol_back : (t : Lexeme) (b : ℕ) → is_symbol b t ≡ true → symbol_of t ≡ Some b
symbol_back t b h = go (symbol_of t) h where
  go : (o : Option ℕ) → option_map_or (λ s. s == b) o false ≡ true → o ≡ Some b
  go None h = cc
  go (Some s) h = ap Some (eqb-true s b h)

pub symbol_not : (t : Lexeme) (b : ℕ) → (symbol_of t ≡ Some b → ⊥) → is_symbol b t ≡ false
symbol_not t b never = elim (cases_Bool (is_symbol b t)) [ inl same ↦ absurd (never (symbol_back t b same)) | inr e ↦ e ]

pub symbol_kind : (t : Lexeme) (b : ℕ) → symbol_of t ≡ Some b → t.kind ≡ Symbol
symbol_kind t b h = go t.kind t.text h where
  go : (kind : TokenKind) (text : List ℕ) → symbol_in kind text ≡ Some b → kind ≡ Symbol
  go Symbol text h = refl
  go Word text h = cc
  go Directive text h = cc
  go Number text h = cc
  go Char text h = cc
  go Str text h = cc

and_false : (b : Bool) → (b && false) ≡ false
and_false true = refl
and_false false = refl

-- a symbol is not the word A
pub not_a : (t : Lexeme) (ts : List Lexeme) (b : ℕ) → symbol_of t ≡ Some b → (is_alone ts && is_word (codes "A") t) ≡ false
not_a t ts b h = rw (symbol_kind t b h) (and_false (is_alone ts))

-- ---- symbols that stand in no expression

pub record Foreign (b : ℕ) : Type 0 where
  pub star : star_term b ≡ None
  pub operator : operator_for b ≡ None
  pub opens : (91 == b) ≡ false
  pub closes : (93 == b) ≡ false
  pub negates : (45 == b) ≡ false
  pub lows : (60 == b) ≡ false
  pub highs : (62 == b) ≡ false

-- : = , # ! ( )
pub colon : Foreign 58
colon = record { star = refl; operator = refl; opens = refl; closes = refl; negates = refl; lows = refl; highs = refl }

pub equals : Foreign 61
equals = record { star = refl; operator = refl; opens = refl; closes = refl; negates = refl; lows = refl; highs = refl }

pub comma : Foreign 44
comma = record { star = refl; operator = refl; opens = refl; closes = refl; negates = refl; lows = refl; highs = refl }

pub hash : Foreign 35
hash = record { star = refl; operator = refl; opens = refl; closes = refl; negates = refl; lows = refl; highs = refl }

pub mark : Foreign 33
mark = record { star = refl; operator = refl; opens = refl; closes = refl; negates = refl; lows = refl; highs = refl }

pub opening : Foreign 40
opening = record { star = refl; operator = refl; opens = refl; closes = refl; negates = refl; lows = refl; highs = refl }

pub closing : Foreign 41
closing = record { star = refl; operator = refl; opens = refl; closes = refl; negates = refl; lows = refl; highs = refl }

abbrev pub NoneIs : ℕ → List Lexeme → Type 0
NoneIs b [] = ⊤
NoneIs b (t ∷ ts) = (symbol_of t ≡ Some b → ⊥) × NoneIs b ts

none_append : (b : ℕ) (ls rs : List Lexeme) → NoneIs b ls → NoneIs b rs → NoneIs b (ls ++ rs)
none_append b [] rs h k = k
none_append b (l ∷ ls) rs h k = (h.0, none_append b ls rs h.1 k)

none_in : (b : ℕ) (ls rs : List Lexeme) (t : Lexeme) → NoneIs b (ls ++ t ∷ rs) → symbol_of t ≡ Some b → ⊥
none_in b [] rs t h = h.0
none_in b (l ∷ ls) rs t h = none_in b ls rs t h.1

atom_not : (b : ℕ) → star_term b ≡ None → (kind : TokenKind) (text : List ℕ) (e : Term) → atom_in kind text ≡ Some e → symbol_in kind text ≡ Some b → ⊥
atom_not b star Symbol text e h s =
    let there : option_and_then star_term (Some b) ≡ Some e = rw s at h in
    let bad : None ≡ Some e = sym star ∙ there in cc
atom_not b star Word text e h s = cc
atom_not b star Directive text e h s = cc
atom_not b star Number text e h s = cc
atom_not b star Char text e h s = cc
atom_not b star Str text e h s = cc

operator_not : (b : ℕ) → operator_for b ≡ None → (t : Lexeme) (op : Operator) → operator_of t ≡ Some op → symbol_of t ≡ Some b → ⊥
operator_not b never t op h s =
    let there : operator_for b ≡ Some op = rw s at h in
    let bad : None ≡ Some op = sym never ∙ there in cc

pub none_is : (b : ℕ) → Foreign b → {l : Level} {d : ℕ} {e : Term} {ts : List Lexeme} → Derives l d e ts → NoneIs b ts
none_is b f (atom t {e = e} h) = (atom_not b f.star t.kind t.text e h, tt)
none_is b f (group t u {ts = ts} o c h) = (two_symbols t 91 b f.opens o, none_append b ts (u ∷ []) (none_is b f h) (two_symbols u 93 b f.closes c, tt))
none_is b f (plain h) = none_is b f h
none_is b f (minus t o h) = (two_symbols t 45 b f.negates o, none_is b f h)
none_is b f (single h) = none_is b f h
none_is b f (chain t {op = op} {ls = ls} {rs = rs} o h k) = none_append b ls (t ∷ rs) (none_is b f h) (operator_not b f.operator t op o, none_is b f k)
none_is b f (bare h) = none_is b f h
none_is b f (low_byte t o h) = (two_symbols t 60 b f.lows o, none_is b f h)
none_is b f (high_byte t o h) = (two_symbols t 62 b f.highs o, none_is b f h)

-- ---- where an expression ends

-- no tokens, or some that begin with a symbol that stands in no expression
abbrev pub Ends : List Lexeme → Type 0
Ends [] = ⊤
Ends (u ∷ us) = (b : ℕ) × Foreign b × (symbol_of u ≡ Some b)

record Between (ts us front rest : List Lexeme) : Type 0 where
  mid : List Lexeme
  longer : front ≡ ts ++ mid
  left : us ≡ mid ++ rest

head_same : (t f : Lexeme) (ts fs : List Lexeme) → t ∷ ts ≡ f ∷ fs → t ≡ f
head_same t f ts fs e = cc

tail_same : (t f : Lexeme) (ts fs : List Lexeme) → t ∷ ts ≡ f ∷ fs → ts ≡ fs
tail_same t f ts fs e = cc

between : (ts us front rest : List Lexeme) → ts ++ us ≡ front ++ rest → length ts ≤ length front → Between ts us front rest
between [] us front rest same le = record { mid = front; longer = refl; left = same }
between (t ∷ ts) us [] rest same le = absurd (omega arith)
between (t ∷ ts) us (f ∷ fs) rest same le =
    let b = between ts us fs rest (tail_same t f (ts ++ us) (fs ++ rest) same) (omega arith) in
    let h = head_same t f (ts ++ us) (fs ++ rest) same in
    record { mid = b.mid; longer = ap (λ (x : Lexeme). x ∷ fs) (sym h) ∙ ap (λ (x : List Lexeme). t ∷ x) b.longer; left = b.left }

module _ (longest : ReadsLongest) (one : OneExpression) where
  -- an expression is read as far as it goes where nothing of it can follow
  pub read_before : (e : Term) (ts us : List Lexeme) → IsExpression e ts → Ends us → expression_of (ts ++ us) ≡ Some (e, us)
  read_before e ts us d ends = go (expression_of (ts ++ us)) (longest (ts ++ us)) where
    by : (p : Term × List Lexeme) (h : Longest (ts ++ us) p.0 p.1) (mid : List Lexeme) → h.front ≡ ts ++ mid → us ≡ mid ++ p.1 → (v : List Lexeme)
        → us ≡ v → Ends v → p ≡ (e, us)
    by p h [] longer left v is stop =
        let same : h.front ≡ ts = longer ∙ append-nil ts in
        let k : IsExpression p.0 ts = subst (λ x. IsExpression p.0 x) same h.derived in
        let term : p.0 ≡ e = one p.0 e ts k d in
        ap (λ (x : Term). (x, p.1)) term ∙ ap (λ (x : List Lexeme). (e, x)) (sym left)
    by p h (m ∷ mid) longer left [] is stop = let bad : m ∷ (mid ++ p.1) ≡ [] = sym left ∙ is in cc
    by p h (m ∷ mid) longer left (u ∷ v) is stop =
        let first : m ≡ u = head_same m u (mid ++ p.1) v (sym left ∙ is) in
        let has : symbol_of m ≡ Some stop.0 = ap (λ (x : Lexeme). symbol_of x) first ∙ stop.2 in
        let free : NoneIs stop.0 (ts ++ m ∷ mid) = subst (λ x. NoneIs stop.0 x) longer (none_is stop.0 stop.1 h.derived) in
        absurd (none_in stop.0 ts mid m free has)

    go : (r : Read) → IfSome r (λ p. Longest (ts ++ us) p.0 p.1)
        × IfNone r ((e : Term) (front more : List Lexeme) → ts ++ us ≡ front ++ more → IsExpression e front → ⊥) → r ≡ Some (e, us)
    go None h = absurd (h.1 e ts us refl d)
    go (Some p) h =
        let b = between ts us h.0.front p.1 h.0.cut (h.0.longest e ts us refl d) in
        ap Some (by p h.0 b.mid b.longer b.left us refl ends)

  pub read_whole : (e : Term) (ts : List Lexeme) → IsExpression e ts → whole_expression ts ≡ Some e
  unfolding whole_expression
  read_whole e ts d =
      let found : expression_of ts ≡ Some (e, []) = ap expression_of (sym (append-nil ts)) ∙ read_before e ts [] d tt in
      rw found refl

  -- an expression has a token
  pub some_token : (e : Term) (ts : List Lexeme) → IsExpression e ts → 0 < length ts
  unfolding expression_of
  some_token e (t ∷ ts) d = omega arith
  some_token e [] d = let bad : expression_of [] ≡ Some (e, []) = read_before e [] [] d tt in cc
