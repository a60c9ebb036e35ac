-- The words of a range, one after another.
use Rattle.std.proofs.Common.{◌≡◌, ◌∙◌, ℕ, zero, suc, ◌+◌, ◌-◌, ◌<◌, ◌≤◌, List, [], ◌++◌, Option, nat_lt, true, false, refl, sym, ap, append_assoc, append-nil, arith}
use Rattle.std.proofs.lemmas.Bool.{lt-ltb, le-ltb}
use Rattle.marks_files.specs.declared.marks.Split.{Split}
use Rattle.remarked_source.specs.Splits.{target_at}
use Rattle.word_dis.specs.Written.{half_targets, target_list, word_at, words_between}

-- what was found, and what is left to find
abbrev pub AreFound : List (Option ℕ) → ℕ → List ℕ → ℕ → ℕ → ℕ → List ℕ → Type 0
AreFound part more out left at last whole = out ++ words_between part more left at last ≡ whole

pub one_more : (part : List (Option ℕ)) (more left at last : ℕ) (out new whole : List ℕ) → 0 < left → at < last → new ≡ out ++ word_at part more at
    → AreFound part more out left at last whole → AreFound part more new (left - 1) (at + 2) last whole
unfolding words_between
one_more part more zero at last out new whole some below put found = absurd (omega (arith, some))
one_more part more (suc n) at last out new whole some below put found =
    let one : suc n - 1 ≡ n = omega arith in
    let is : nat_lt at last ≡ true = lt-ltb at last below in
    rw (put, one) (append_assoc out (word_at part more at) (words_between part more n (at + 2) last) ∙ rw is at found)

pub ended : (part : List (Option ℕ)) (more left at last : ℕ) (out whole : List ℕ) → last ≤ at → AreFound part more out left at last whole → out ≡ whole
unfolding words_between
ended part more zero at last out whole past found = sym (append-nil out) ∙ found
ended part more (suc n) at last out whole past found =
    let is : nat_lt at last ≡ false = le-ltb at last past in
    sym (append-nil out) ∙ rw is at found

pub none : (part : List (Option ℕ)) (more at last : ℕ) (out whole : List ℕ) → AreFound part more out 0 at last whole → out ≡ whole
unfolding words_between
none part more at last out whole found = sym (append-nil out) ∙ found

-- ---- a table in two halves

pub no_halves : (part : List (Option ℕ)) (split : Split) (out : List ℕ) → out ≡ out ++ half_targets part split 0
unfolding half_targets
no_halves part split out = sym (append-nil out)

pub halves_more : (part : List (Option ℕ)) (split : Split) (n : ℕ) (first out new : List ℕ) → out ≡ first ++ half_targets part split n
    → new ≡ out ++ target_list (target_at part split n) → new ≡ first ++ half_targets part split (n + 1)
unfolding half_targets
halves_more part split n first out new so_far put =
    let one : n + 1 ≡ suc n = omega arith in
    rw one (put ∙ (ap (λ (t : List ℕ). t ++ target_list (target_at part split n)) so_far
    ∙ append_assoc first (half_targets part split n) (target_list (target_at part split n))))
