-- Runs one after another.
use Rattle.std.proofs.Common.{ℕ, List, [], ◌∷◌, ◌++◌, refl, subst}
use Rattle.mon_session.specs.Course.{Course}
use Rattle.mon_steps.specs.RunLines.{IsRun, AreRuns, HasRun}

pub runs-append : (xs ys : List ℕ) (a b c : Course) → AreRuns xs a b → AreRuns ys b c
    → AreRuns (xs ++ ys) a c
runs-append [] ys a b c p q = subst (λ (x : Course). AreRuns ys x c) p q
runs-append (x ∷ xs) ys a b c p q = (p.0, p.1, runs-append xs ys p.0 b c p.2 q)

pub run_none : (a : Course) → HasRun a a
run_none a = ([], refl)

pub run_one : (did : ℕ) (a b : Course) → IsRun did a b → HasRun a b
run_one did a b p = (did ∷ [], (b, p, refl))

pub run_then : (a b c : Course) → HasRun a b → HasRun b c → HasRun a c
run_then a b c p q = (p.0 ++ q.0, runs-append p.0 q.0 a b c p.1 q.1)
