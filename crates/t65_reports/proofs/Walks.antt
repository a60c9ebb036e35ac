-- The way along lines to the one with a number.
use Rattle.std.proofs.Common.{◌≡◌, ◌∙◌, ℕ, zero, suc, ◌+◌, ◌-◌, ◌<◌, ◌≤◌, Bool, true, false, List, [], ◌∷◌, length, drop, refl, sym, ap, cond, arith, inl, inr}
use Rattle.std.specs.Prelude.{min, nat_lt, slice_get}
use Rattle.std.specs.Option.{unwrap_or}
use Rattle.std.proofs.lemmas.Bool.{cases_lt, lt-ltb}
use Rattle.std.proofs.lemmas.Bool.Decides.{nat_tests}
use Rattle.model.specs.TextLines.{lines_from, lines_of}
use Rattle.t65_reports.specs.Lines.{line_at, lines_after, next_after}

-- What a walk finds, and where it is then.
abbrev pub walked : ℕ → ℕ → List (List ℕ) → List ℕ × List (List ℕ) × ℕ
walked number next lines = (line_at number next lines, lines_after number next lines, next_after number next lines)

-- by what the test says
walked_by : Bool → ℕ → ℕ → List (List ℕ) → List ℕ × List (List ℕ) × ℕ
walked_by b number next lines = (
  cond b [] (unwrap_or (slice_get lines (number - next)) []),
  cond b lines (drop (number + 1 - next) lines),
  cond b
      next (min (min (number + 1) (next + length lines)) 4294967295),
)

by_test : (number next : ℕ) (lines : List (List ℕ)) (b : Bool) → nat_lt number next ≡ b → walked number next lines ≡ walked_by b number next lines
unfolding walked_by
by_test number next lines b e = ap (λ b. walked_by b number next lines) e

pub walked_past : (number next : ℕ) (lines : List (List ℕ)) → number < next → walked number next lines ≡ ([], lines, next)
unfolding walked_by
walked_past number next lines h = by_test number next lines true (lt-ltb number next h)

not_past : (number next : ℕ) → next ≤ number → nat_lt number next ≡ false
not_past number next h = grind (arith, nat_tests)

drop_none : (n : ℕ) → drop {A = List ℕ} n [] ≡ []
drop_none zero = refl
drop_none (suc n) = refl

pub walked_none : (number next : ℕ) → number ≤ 4294967295 → walked number next [] ≡ ([], [], next)
unfolding walked_by
walked_none number next h = elim (cases_lt number next) [
  | inl before ↦ walked_past number next [] before
  | inr after ↦
      let same : min (min (number + 1) (next + 0)) 4294967295 ≡ next = omega arith in
      by_test number next [] false (not_past number next after)
      ∙ (ap (λ n. ([], drop (number + 1 - next) [], n)) same ∙ ap (λ t. ([], t, next)) (drop_none (number + 1 - next)))
]

pub walked_found : (number next here : ℕ) (line : List ℕ) (lines : List (List ℕ)) → next ≡ number → here ≡ min (next + 1) 4294967295
    → walked number next (line ∷ lines) ≡ (line, lines, here)
unfolding walked_by
walked_found number next here line lines e f =
    let none : number - next ≡ 0 = omega arith in
    let one : number + 1 - next ≡ 1 = omega arith in
    let last : min (min (number + 1) (next + suc (length lines))) 4294967295 ≡ here = omega arith in
    by_test number next (line ∷ lines) false (not_past number next (omega arith))
    ∙ (ap (λ k. (
      unwrap_or (slice_get (line ∷ lines) k) [],
      drop (number + 1 - next) (line ∷ lines),
      min
          (min (number + 1) (next + suc (length lines))) 4294967295,
    )) none
    ∙ (ap (λ k. (line, drop k (line ∷ lines), min (min (number + 1) (next + suc (length lines))) 4294967295)) one
    ∙ ap (λ k. (line, lines, k)) last))

pub walked_more : (number next here : ℕ) (line : List ℕ) (lines : List (List ℕ)) → next < number → number ≤ 4294967295 → here ≡ min (next + 1) 4294967295
    → walked number here lines ≡ walked number next (line ∷ lines)
unfolding walked_by
walked_more number next here line lines h k e =
    let a : number - next ≡ suc (number - here) = omega arith in
    let b : number + 1 - next ≡ suc (number + 1 - here) = omega arith in
    let d : min (min (number + 1) (next + suc (length lines))) 4294967295 ≡ min (min (number + 1) (here + length lines)) 4294967295 = omega arith in
    by_test number here lines false (not_past number here (omega arith))
    ∙ sym (by_test number next (line ∷ lines) false (not_past number next (omega arith))
    ∙ (ap (λ k. (
      unwrap_or (slice_get (line ∷ lines) k) [],
      drop (number + 1 - next) (line ∷ lines),
      min
          (min (number + 1) (next + suc (length lines))) 4294967295,
    )) a
    ∙ (ap (λ k. (unwrap_or (slice_get lines (number - here)) [], drop k (line ∷ lines), min (min (number + 1) (next + suc (length lines))) 4294967295)) b
    ∙ ap (λ k. (unwrap_or (slice_get lines (number - here)) [], drop (number + 1 - here) lines, k)) d)))

pub none_left : (xs : List ℕ) → length xs ≡ 0 → xs ≡ []
none_left [] h = refl
none_left (x ∷ xs) h = absurd (omega (arith, h))

pub no_lines : lines_of [] ≡ []
unfolding lines_from
no_lines = refl

pub ended : (number next : ℕ) (rest : List ℕ) (whole : List ℕ × List (List ℕ) × ℕ) → number ≤ 4294967295 → length rest ≡ 0
    → walked number next (lines_of rest) ≡ whole → whole ≡ ([], lines_of rest, next)
ended number next rest whole h k e =
    let none : rest ≡ [] = none_left rest k in
    let empty : lines_of rest ≡ [] = ap (λ r. lines_of r) none ∙ no_lines in
    sym e ∙ (ap (walked number next) empty ∙ (walked_none number next h ∙ ap (λ t. ([], t, next)) (sym empty)))
