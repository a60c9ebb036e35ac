-- A `Result` that is made of another one, whose error is one of it too.
use Rattle.std.proofs.Common.{◌≡◌, IfOk, subst, sym}
use Rattle.std.proofs.lemmas.Result.{IfOk-from_err, IfOk-weaker}
use Rattle.std.specs.Prelude.{Err, IsErr, MatchResult, Ok, Result}

pub chained : {A B E F : Type 0} (r : Result A E) (s : Result B F) (P : A → Type 0) (Q : A → B → Type 0) → IfOk r P
    → MatchResult r (λ a. IfOk s (λ b. Q a b)) (λ e. IsErr s)
    → IfOk s (λ b. (a : A) × P a × Q a b)
chained (Ok a) s P Q first second = IfOk-weaker s _ _ (λ b h. (a, first, h)) second
chained (Err e) s P Q first second = IfOk-from_err s _ second

pub both : {A E : Type 0} (r : Result A E) (P Q : A → Type 0) → IfOk r P → IfOk r Q → IfOk r (λ a. P a × Q a)
both (Ok a) P Q first second = (first, second)
both (Err e) P Q first second = tt

-- The same where the second one's error has a meaning of its own.
pub through : {A B E F : Type 0} (r : Result A E) (s : Result B F) (P : A → Type 0) (Q : A → B → Type 0) (W : A → F → Type 0) (e : F) (K : Type 0)
    (G : B → Type 0) (H : F → Type 0)
    → IfOk r P → MatchResult r (λ a. MatchResult s (λ b. Q a b) (λ f. W a f)) (λ _. (s ≡ Err e) × K)
    → ((a : A) → P a → (b : B) → Q a b → G b) → ((a : A) → P a → (f : F) → W a f → H f) → (K → H e) → MatchResult s G H
through (Ok a) (Ok b) P Q W e K G H first second good bad kept = good a first b second
through (Ok a) (Err f) P Q W e K G H first second good bad kept = bad a first f second
through (Err x) s P Q W e K G H first second good bad kept = subst (λ t. MatchResult t G H) (sym second.0) (kept second.1)
