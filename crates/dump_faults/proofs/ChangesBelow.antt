-- The changes of two images, one address more at a time.
use Rattle.std.proofs.Common.{◌≡◌, ◌∙◌, ℕ, ◌+◌, List, [], ◌++◌, Option, refl, ap, add-one}
use Rattle.model.specs.Image.{cell_at}
use Rattle.dump_faults.specs.Changes.{change_of, changes_below}
use Rattle.dump_faults.specs.declared.changes.Change.{Change}

pub none : (one other : List (Option ℕ)) → changes_below one other 0 ≡ []
unfolding changes_below
none one other = refl

pub more : (one other : List (Option ℕ)) (n : ℕ) (found now : List Change) → found ≡ changes_below one other n
    → now ≡ found ++ change_of (cell_at one n) (cell_at other n) → now ≡ changes_below one other (n + 1)
unfolding changes_below
more one other n found now so_far grown =
    rw add-one (grown ∙ ap (λ (t : List Change). t ++ change_of (cell_at one n) (cell_at other n)) so_far)
