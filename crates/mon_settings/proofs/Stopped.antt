-- Addresses that are watched one by one.
use Rattle.std.proofs.Common.{◌≡◌, ℕ, ◌+◌, ◌-◌, ◌<◌, zero, suc, None, Some, sym, ap, ◌∙◌, arith}
use Rattle.model.specs.Session.{Session}
use Rattle.model.specs.Breakpoints.{watch_set}
use Rattle.mon_settings.specs.StopLines.{all_watched, one_watched, or_same, why_unset}
use Rattle.mon_settings.specs.declared.watches.Unwatched.{Unwatched}

-- Once an address cannot be watched, no more are.
stays : (first n k : ℕ) (s t : Session) (why : Unwatched) → all_watched first n s ≡ (t, Some why)
    → all_watched first (k + n) s ≡ (t, Some why)
stays first n zero s t why h =
    let none : 0 + n ≡ n = omega arith in
    ap (λ m. all_watched first m s) none ∙ h
stays first n (suc k) s t why h =
    let more : suc k + n ≡ suc (k + n) = omega arith in
    ap (λ m. all_watched first m s) more
    ∙ ap (one_watched (first + (k + n))) (stays first n k s t why h)

pub stopped : (first n count : ℕ) (s t u : Session) (why : Unwatched) → n < count
    → all_watched first n s ≡ (t, None) → u ≡ or_same t (watch_set (first + n) t)
    → Some why ≡ why_unset (watch_set (first + n) t) → all_watched first count s ≡ (u, Some why)
stopped first n count s t u why within before after rejected =
    let step : all_watched first (suc n) s ≡ (u, Some why) = ap (one_watched (first + n)) before ∙ (λ i. (sym after i, sym rejected i)) in
    let all : count ≡ (count - suc n) + suc n = omega arith in
    ap (λ m. all_watched first m s) all ∙ stays first (suc n) (count - suc n) s u why step
