-- The counts of nothing.
use Rattle.std.proofs.Common.{◌≡◌, ℕ, List, length, replicate, ap, ◌∙◌}
use Rattle.std.proofs.lemmas.List.{length-replicate}
use Rattle.accesses.specs.Tallies.{no_counts}

-- the numeral is met here alone
pub no_counts_are : (n : ℕ) → n ≡ 65536 → replicate n 0 ≡ no_counts
unfolding no_counts
no_counts_are n e = ap (λ (k : ℕ). replicate {A = ℕ} k 0) e

pub no_counts_size : (n : ℕ) (zeros : List ℕ) → n ≡ 65536 → zeros ≡ replicate n 0 → length zeros ≡ 65536
no_counts_size n zeros e f = ap length f ∙ length-replicate n 0 ∙ e
