-- Runs that go on past breaks, stretch by stretch.
use Rattle.std.proofs.Common.{◌≡◌, ℕ, ◌+◌, ◌-◌, suc, Option, Some, None, sym, ap, ◌∙◌, arith}
use Rattle.std.specs.Option.{option_map}
use Rattle.model.specs.Run.{run_end}
use Rattle.model.specs.declared.run_end.Why.{Why}
use Rattle.mon_runs.specs.Looked.{Arrival, Place, after_stretch, ended_or, later}
use Rattle.mon_runs.specs.PastBreaks.{as_stopped, run_past, why_of_stretch}
use Rattle.mon_runs.specs.declared.ended.EndWhy.TheVariants as end_why
use Rattle.mon_runs.proofs.LookedRuns.{later-more, later-none}

pub stretch-begin : (count left : ℕ) (p : Place)
    → run_past count left p ≡ later 0 (run_past (count - 0) left p)
stretch-begin count left p =
    let all : count - 0 ≡ count = omega arith in
    later-none (run_past count left p) ∙ ap (λ j. later 0 (run_past j left p)) (sym all)

stretch-first : (n left d : ℕ) (p q : Place) (y : Option Why) → d ≡ (run_end left p.0).did
    → y ≡ why_of_stretch left p → q ≡ after_stretch None left p
    → run_past (suc n) left p ≡ ended_or (option_map as_stopped y) d None q (run_past n (left - d) q)
unfolding run_past
stretch-first n left d p q y made why after = λ i.
    ended_or (option_map as_stopped (sym why i)) (sym made i) None (sym after i) (run_past n (left - sym made i) (sym after i))

pub stretch-ends : (rest n left did d : ℕ) (p q : Place) (why : Why) (y : Option Why)
    (whole : Arrival) → whole ≡ later did (run_past rest left p) → rest ≡ suc n
    → d ≡ (run_end left p.0).did → y ≡ why_of_stretch left p → q ≡ after_stretch None left p
    → y ≡ Some why → whole ≡ (record { did = did + d; why = end_why.Stopped why; from = None }, q)
stretch-ends rest n left did d p q why y whole h more made reason after some =
    h ∙ ap (λ j. later did (run_past j left p)) more
    ∙ ap (later did) (stretch-first n left d p q y made reason after
    ∙ ap (λ o. ended_or (option_map as_stopped o) d None q (run_past n (left - d) q)) some)

pub stretch-goes : (rest n left did d : ℕ) (p q : Place) (y : Option Why) (whole : Arrival)
    → whole ≡ later did (run_past rest left p) → rest ≡ suc n
    → d ≡ (run_end left p.0).did → y ≡ why_of_stretch left p → q ≡ after_stretch None left p
    → y ≡ None → whole ≡ later (did + d) (run_past n (left - d) q)
stretch-goes rest n left did d p q y whole h more made reason after none =
    h ∙ ap (λ j. later did (run_past j left p)) more
    ∙ ap (later did) (stretch-first n left d p q y made reason after
    ∙ ap (λ o. ended_or (option_map as_stopped o) d None q (run_past n (left - d) q)) none)
    ∙ later-more did d (run_past n (left - d) q)

pub stretch-over : (rest left did : ℕ) (p : Place) (whole : Arrival)
    → whole ≡ later did (run_past rest left p) → rest ≡ 0
    → whole ≡ (record { did = did; why = end_why.Many; from = None }, p)
unfolding run_past
stretch-over rest left did p whole h none =
    let sum : did + 0 ≡ did = omega arith in
    h ∙ ap (λ j. later did (run_past j left p)) none
    ∙ (λ i. (record { did = sum i; why = end_why.Many; from = None }, p))
