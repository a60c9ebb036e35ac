-- Addresses that are added one by one.
use Rattle.std.proofs.Common.{◌≡◌, ℕ, ◌+◌, suc, Bool, not, List, [], ◌∷◌, ◌++◌, refl, sym, ap, ◌∙◌, arith}
use Rattle.std.specs.Prelude.{filter}
use Rattle.std.proofs.lemmas.List.{append_assoc}
use Rattle.std.proofs.lemmas.List.Elements.{filter-append}
use Rattle.mon_lines.specs.declared.command.WatchKind.TheVariants.{Change}
use Rattle.mon_runs.specs.Stops.{addresses, has_access, new_among}
use Rattle.mon_runs.specs.declared.watches.Watch.{Watch}

nil_behind : (xs : List ℕ) → xs ≡ xs ++ []
nil_behind [] = refl
nil_behind (x ∷ xs) = ap (λ l. x ∷ l) (nil_behind xs)

pub none_added : (old : List ℕ) (ws : List Watch) (first : ℕ)
    → old ≡ old ++ new_among ws (addresses first 0)
unfolding addresses
none_added old ws first = nil_behind old

pub one_more : (old : List ℕ) (ws : List Watch) (first n : ℕ)
    → (old ++ new_among ws (addresses first n)) ++ new_among ws ((first + n) ∷ [])
    ≡ old ++ new_among ws (addresses first (n + 1))
unfolding addresses
one_more old ws first n =
    let p : ℕ → Bool = λ a. not (has_access Change a ws) in
    let more : suc n ≡ n + 1 = omega arith in
    append_assoc old (filter p (addresses first n)) (filter p ((first + n) ∷ []))
    ∙ ap (λ l. old ++ l) (sym (filter-append p (addresses first n) ((first + n) ∷ []))
    ∙ ap (λ k. filter p (addresses first k)) more)
