-- What is seen, byte after byte.
use Rattle.std.proofs.Common.{◌≡◌, ℕ, List, [], ◌∷◌, ◌++◌, refl}
use Rattle.word_debug.specs.Seen.{next, after_all}
use Rattle.word_debug.specs.declared.seen.Seen.{Seen}

pub seen_more : (s : Seen) (xs : List ℕ) (b : ℕ) → after_all s (xs ++ b ∷ []) ≡ next (after_all s xs) b
unfolding after_all
seen_more s [] b = refl
seen_more s (x ∷ xs) b = seen_more (next s x) xs b
