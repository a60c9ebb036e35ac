-- A byte in place of another, and the sum of all.
use Rattle.std.proofs.Common.{◌≡◌, ℕ, zero, suc, ◌+◌, ◌-◌, ◌%◌, ◌<◌, ◌≤◌, List, [], ◌∷◌, Option, None, Some, is_some, get_or, set, take, length, refl, ap, ◌∙◌, arith}
use Rattle.std.specs.List.{sum_by}
use Rattle.std.proofs.lemmas.List.Sums.{sum_by-cons, sum_by-set}
use Rattle.model.specs.Image.{cell_at}
use Rattle.word_convert.specs.Sums.{IsSummed, cell_value}

module _ (cells : List (Option ℕ)) (address byte : ℕ) (inside : address < length cells) (there : cell_at cells address ≡ Some byte) where
  value : cell_value (get_or cells address None) ≡ byte
  value = ap cell_value there

  -- a byte is a part of the sum
  pub within : byte ≤ sum_by cell_value cells
  within =
      let without = sum_by-set cell_value cells address None None inside in
      omega (arith, without, value)

  pub summed : (right : ℕ) → right < 256 → (sum_by cell_value cells - byte + right) % 256 ≡ 0 → IsSummed (Some address) cells (set cells address (Some right))
  summed right small none =
      let changed = sum_by-set cell_value cells address (Some right) None inside in
      let whole : sum_by cell_value (set cells address (Some right)) ≡ sum_by cell_value cells - byte + right = omega (arith, changed, value, within) in
      (right, small, ap is_some there, refl, ap (λ (n : ℕ). n % 256) whole ∙ none)

-- the sum of one cell more
pub sum-more : (cells : List (Option ℕ)) (k n : ℕ) → n ≡ k + 1
    → sum_by cell_value (take n cells) ≡ sum_by cell_value (take k cells) + cell_value (get_or cells k None)
sum-more cells k zero e = absurd (omega (arith, e))
sum-more [] zero (suc n) e = refl
sum-more [] (suc k) (suc n) e = refl
sum-more (b ∷ cells) zero (suc n) e =
    let none : n ≡ 0 = omega (arith, e) in
    ap (λ (m : ℕ). sum_by cell_value (take (suc m) (b ∷ cells))) none
sum-more (b ∷ cells) (suc k) (suc n) e =
    let rest = sum-more cells k n (omega (arith, e)) in
    let one : sum_by cell_value (take (suc n) (b ∷ cells)) ≡ cell_value b + sum_by cell_value (take n cells) = sum_by-cons cell_value b (take n cells) in
    let two : sum_by cell_value (take (suc k) (b ∷ cells)) ≡ cell_value b + sum_by cell_value (take k cells) = sum_by-cons cell_value b (take k cells) in
    let same : get_or (b ∷ cells) (suc k) None ≡ get_or cells k None = refl in
    let value = ap cell_value same in
    omega (arith, rest, one, two, value)

pub ruleset summed_one_more = sum-more
