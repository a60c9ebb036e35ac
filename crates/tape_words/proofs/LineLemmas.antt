-- Lines that end among the first bytes of a text.
use Rattle.std.proofs.Common.{◌≡◌, ◌∙◌, ℕ, zero, suc, ◌+◌, ◌≤◌, Bool, true, false, eqb, List, [], ◌∷◌, drop, length, refl, sym, ap, arith}
use Rattle.std.proofs.lemmas.Bool.{eqb-true}
use Rattle.tape_words.specs.Lines.{ends_first, line_ends}

nil_ends : (count : ℕ) → line_ends count [] ≡ 0
unfolding line_ends
nil_ends zero = refl
nil_ends (suc count) = let rest = nil_ends count in omega (arith, rest)

pub none_ends : (count : ℕ) (text : List ℕ) → length text ≤ 0 → line_ends count text ≡ 0
none_ends count [] h = nil_ends count
none_ends count (b ∷ text) h = absurd (omega (arith, h))

line_ends-suc : (count : ℕ) (text : List ℕ) → line_ends (suc count) text ≡ ends_first text + line_ends count (drop 1 text)
unfolding line_ends
line_ends-suc count text = refl

pub one_more : (n m : ℕ) (text : List ℕ) → n ≡ m + 1 → line_ends n text ≡ ends_first text + line_ends m (drop 1 text)
one_more n m text e =
    let s : n ≡ suc m = omega (arith, e) in
    ap (λ k. line_ends k text) s ∙ line_ends-suc m text

pub no_more : (n : ℕ) (text : List ℕ) → n ≡ 0 → line_ends n text ≡ 0
unfolding line_ends
no_more n text e = ap (λ k. line_ends k text) e

-- A text that is not empty has one byte more than the rest of it.
pub shorter : (text : List ℕ) (b : Bool) → b ≡ eqb (length text) 0 → b ≡ false → length text ≡ length (drop 1 text) + 1
shorter [] b is some = absurd cc
shorter (x ∷ text) b is some = omega arith

pub none_left : (text : List ℕ) (b : Bool) → b ≡ eqb (length text) 0 → b ≡ true → length text ≤ 0
none_left text b is none = let e = eqb-true (length text) 0 (sym is ∙ none) in omega (arith, e)
