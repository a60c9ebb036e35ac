-- Bytes that are shown as text.
use Rattle.std.proofs.Common.{◌≡◌, ℕ, ◌++◌, [], List, subst}
use Rattle.std.specs.Prelude.{OnOk, Result}
use Rattle.std.specs.declared.alloc.AllocError.{AllocError}

-- what was appended to no bytes
pub grown : (r : Result Unit AllocError) (new m x : List ℕ) → m ≡ [] → OnOk r (new ≡ m ++ x) → OnOk r (new ≡ x)
grown r new m x none is = subst (λ (bs : List ℕ). OnOk r (new ≡ bs ++ x)) none is
