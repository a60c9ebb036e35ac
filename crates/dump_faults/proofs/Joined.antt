-- Lists that grow by what each number adds.
use Rattle.std.proofs.Common.{◌≡◌, ◌∙◌, ℕ, ◌+◌, List, ◌++◌, sym, ap, append_assoc, append-nil, add-one}
use Rattle.dump_faults.specs.Faults.{joined_below}

pub none : {X : Type 0} (add : ℕ → List X) (found : List X) → found ≡ found ++ joined_below add 0
unfolding joined_below
none add found = sym (append-nil found)

pub more : {X : Type 0} (add : ℕ → List X) (n : ℕ) (before found now : List X) → found ≡ before ++ joined_below add n → now ≡ found ++ add n
    → now ≡ before ++ joined_below add (n + 1)
unfolding joined_below
more add n before found now so_far grown =
    rw add-one (grown ∙ (ap (λ t. t ++ add n) so_far ∙ append_assoc before (joined_below add n) (add n)))
