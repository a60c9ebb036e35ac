-- A fault that `?` passes on.
use Rattle.std.proofs.Common.{◌≡◌, Result, Ok, Err, subst, sym}
use Rattle.std.specs.Prelude.{IfErr, IsErrAnd}

-- What holds of the fault holds where it is passed on.
pub passed : {X E : Type 0} (P : E → Type 0) (r : Result X E) (fault : E) → IsErrAnd r (λ e. e ≡ fault) → P fault → IfErr r P
passed P (Ok x) fault same holds = absurd same
passed P (Err e) fault same holds = subst P (sym same) holds
