-- The way over the tests of a break.
use Rattle.std.proofs.Common.{◌≡◌, ℕ, zero, suc, ◌+◌, Bool, true, false, cond, List, codes, refl, ap, ◌∙◌, arith, Ok, Err}
use Rattle.mon_line_parts.specs.Values.{PlacesView}
use Rattle.mon_line_parts.specs.Reading.{Reads, SeenFlaw, after_word, and_then, is_word}
use Rattle.mon_lines.specs.Parts.{test_of, tests_within, with_test}
use Rattle.mon_lines.specs.declared.command.Test.{Test}

-- what stands behind a test
abbrev next_tests : ℕ → PlacesView → ℕ → List Test → List ℕ → Bool → Reads (List Test)
next_tests n places pc more rest true = tests_within n places pc more (after_word rest)
next_tests n places pc more rest false = Ok (more, rest)

tests_suc : (n m : ℕ) (places : PlacesView) (pc : ℕ) (found : List Test) (text : List ℕ) (more : List Test) (rest : List ℕ) → n ≡ m + 1
    → and_then (test_of places pc text) (with_test found) ≡ Ok (more, rest)
    → tests_within n places pc found text ≡ next_tests m places pc more rest (is_word (codes "and") rest)
unfolding tests_within
tests_suc zero m places pc found text more rest e k = absurd (omega (arith, e))
tests_suc (suc n) m places pc found text more rest e k =
    let same : n ≡ m = omega (arith, e) in
    rw (← same) (rw k (elim (is_word (codes "and") rest) as (λ (b : Bool). cond b (tests_within n places pc more (after_word rest)) (Ok (more, rest))
    ≡ next_tests n places pc more rest b) [ true ↦ refl | false ↦ refl ]))

pub tests_end : (n m : ℕ) (places : PlacesView) (pc : ℕ) (found : List Test) (text : List ℕ) (more : List Test) (rest : List ℕ) → n ≡ m + 1
    → and_then (test_of places pc text) (with_test found) ≡ Ok (more, rest)
    → is_word (codes "and") rest ≡ false → tests_within n places pc found text ≡ Ok (more, rest)
tests_end n m places pc found text more rest e k h = tests_suc n m places pc found text more rest e k ∙ ap (next_tests m places pc more rest) h

pub tests_more : (n m : ℕ) (places : PlacesView) (pc : ℕ) (found : List Test) (text : List ℕ) (more : List Test) (rest : List ℕ) → n ≡ m + 1
    → and_then (test_of places pc text) (with_test found) ≡ Ok (more, rest)
    → is_word (codes "and") rest ≡ true → tests_within n places pc found text ≡ tests_within m places pc more (after_word rest)
tests_more n m places pc found text more rest e k h = tests_suc n m places pc found text more rest e k ∙ ap (next_tests m places pc more rest) h

pub no_test_left : (n : ℕ) (places : PlacesView) (pc : ℕ) (found : List Test) (text : List ℕ) → n ≡ 0 → tests_within n places pc found text ≡ Ok (found, text)
unfolding tests_within
no_test_left zero places pc found text h = refl
no_test_left (suc n) places pc found text h = absurd (omega (arith, h))

pub test_refused : (n m : ℕ) (places : PlacesView) (pc : ℕ) (found : List Test) (text : List ℕ) (why : SeenFlaw) → n ≡ m + 1
    → and_then (test_of places pc text) (with_test found) ≡ Err why → tests_within n places pc found text ≡ Err why
unfolding tests_within
test_refused zero m places pc found text why e k = absurd (omega (arith, e))
test_refused (suc n) m places pc found text why e k = rw k refl
