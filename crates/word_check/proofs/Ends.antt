-- How words that ask for something end, by the status.
use Rattle.std.proofs.Common.{◌≡◌, ◌⊎◌, ◌∙◌, ℕ, List, Option, inl, inr, subst, sym}
use Rattle.word_check.specs.CommandLine.{CheckAsked}
use Rattle.word_check.specs.Files.{HasNoMap, IsDone}

-- Where the map is one, all files were tried.
pub done_at : (asked : CheckAsked) (held now : Option (List ℕ)) (U : Type 0) (n k : ℕ) → ((n ≡ 2) × HasNoMap asked × U) ⊎ IsDone asked held now U n
    → n ≡ k → (k ≡ 2 → ⊥) → IsDone asked held now U k
done_at asked held now U n k (inl mapless) is other = absurd (other (sym is ∙ mapless.0))
done_at asked held now U n k (inr done) is other = subst (IsDone asked held now U) is done

-- Words that are refused have no map, or all files were tried.
pub refused_at : (asked : CheckAsked) (held now : Option (List ℕ)) (U : Type 0) (n k : ℕ) → ((n ≡ 2) × HasNoMap asked × U) ⊎ IsDone asked held now U n
    → n ≡ k → HasNoMap asked ⊎ IsDone asked held now U k
refused_at asked held now U n k (inl mapless) is = inl mapless.1
refused_at asked held now U n k (inr done) is = inr (subst (IsDone asked held now U) is done)
