-- What is read is the longest beginning that is an expression, and no tokens are two expressions.
use Rattle.std.proofs.Common.{◌≡◌, ℕ, zero, suc, ◌+◌, ◌≤◌, List, [], ◌++◌, length, Option, Some, None, IfSome, IfNone, refl, sym, ap, ◌∙◌, arith}
use Rattle.std.proofs.lemmas.List.{length-append}
use Rattle.model.specs.declared.expression.Operator.{Operator}
use Rattle.model.specs.Token.{Lexeme}
use Rattle.model.specs.Expression.{Term, binary, IsExpression, Longest, OneExpression}
use Rattle.model.specs.Reading.{Read, next_with, went_on, more_with, inner_at, whole_with, expression_of, ReadsLongest}
use Rattle.parser.proofs.Grammar.{FindsWhole, finds_whole}
use Rattle.parser.proofs.Derived.{Inner, Longer, next_derived, inside_at}
use Rattle.parser.proofs.Whole.{found_spelled}

-- more operators only take tokens away
more_takes : (d : ℕ) (inner : List Lexeme → Read) → Inner d inner → (n : ℕ) (e : Term) (tokens : List Lexeme)
    → length (more_with inner n e tokens).1 ≤ length tokens
more_takes d inner h zero e tokens = omega arith
more_takes d inner h (suc n) e tokens = go (next_with inner tokens) (next_derived d inner h tokens) (λ x xs. more_takes d inner h n x xs) where
  go : (o : Option (Operator × Term × List Lexeme)) → Longer d tokens o → ((x : Term) (xs : List Lexeme) → length (more_with inner n x xs).1 ≤ length xs)
      → length (went_on (λ x xs. more_with inner n x xs) e tokens o).1 ≤ length tokens
  go None l again = omega arith
  go (Some q) l again =
      let long : length tokens ≡ length l.0 + length q.2 = ap length l.1 ∙ length-append l.0 q.2 in
      omega (arith, long, again (binary q.0 e q.1) q.2)

abbrev rest_or : List Lexeme → Read → List Lexeme
rest_or other None = other
rest_or other (Some p) = p.1

-- where a beginning is an expression, something is read, and no more is left than after that
-- beginning
record Reaches (tokens more : List Lexeme) : Type 0 where
  pub term : Term
  pub rest : List Lexeme
  pub found : expression_of tokens ≡ Some (term, rest)
  pub short : length rest ≤ length more

reaches : (tokens : List Lexeme) (e : Term) (ts more : List Lexeme) → tokens ≡ ts ++ more → IsExpression e ts → Reaches tokens more
unfolding expression_of
reaches tokens e ts more cut h =
    let f = finds_whole h more in
    let m = more_with (inner_at 8) f.count f.inside more in
    record {
      term = f.around m.0;
      rest = m.1;
      found = ap (whole_with (inner_at 8)) cut ∙ f.found;
      short = more_takes 8 (inner_at 8) (inside_at 8) f.count f.inside more;
    }

abbrev none_read : Read
none_read = None

none_some : {p : Term × List Lexeme} → none_read ≡ Some p → ⊥
none_some h = cc

-- what is left, by the two ways to cut the tokens
shorter : (tokens front rest ts more : List Lexeme) → tokens ≡ front ++ rest → tokens ≡ ts ++ more → length rest ≤ length more → length ts ≤ length front
shorter tokens front rest ts more a b le =
    let x : length front + length rest ≡ length ts + length more = sym (length-append front rest) ∙ ap length (sym a ∙ b) ∙ length-append ts more in
    omega (arith, x, le)

pub reads_longest : ReadsLongest
reads_longest tokens = go (expression_of tokens) refl where
  go : (r : Read) → expression_of tokens ≡ r
      → IfSome r (λ p. Longest tokens p.0 p.1) × IfNone r ((e : Term) (ts more : List Lexeme) → tokens ≡ ts ++ more → IsExpression e ts → ⊥)
  go None h = (tt, λ e ts more cut k. none_some (sym h ∙ (reaches tokens e ts more cut k).found))
  go (Some p) h =
      let s = found_spelled tokens p.0 p.1 h in (
        record {
          front = s.front;
          cut = s.cut;
          derived = s.derived;
          longest = λ e ts more cut k.
              let r = reaches tokens e ts more cut k in
              let same : r.rest ≡ p.1 = ap (rest_or []) (sym r.found ∙ h) in
              shorter tokens s.front p.1 ts more s.cut cut (rw (sym same) r.short);
        },
        tt,
      )

-- ---- one expression

none_left : (inner : List Lexeme → Read) (n : ℕ) (e : Term) → more_with inner n e [] ≡ (e, [])
none_left inner zero e = refl
none_left inner (suc n) e = refl

whole_is : (e : Term) (ts : List Lexeme) → FindsWhole e ts [] → whole_with (inner_at 8) (ts ++ []) ≡ Some (e, [])
whole_is e ts f = f.found ∙ ap (λ (m : Term × List Lexeme). Some (f.around m.0, m.1)) (none_left (inner_at 8) f.count f.inside)
    ∙ ap (λ x. Some (x, [])) (sym f.is)

abbrev term_or : Term → Read → Term
term_or other None = other
term_or other (Some p) = p.0

pub one_expression : OneExpression
one_expression a b ts h k = ap (term_or a) (sym (whole_is a ts (finds_whole h [])) ∙ whole_is b ts (finds_whole k []))
