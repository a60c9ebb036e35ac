-- Lines that are shown one after another.
use Rattle.std.proofs.Common.{◌≡◌, ◌∙◌, ℕ, zero, suc, ◌+◌, List, [], ◌++◌, refl, sym, ap, arith, append_assoc, append-nil}
use Rattle.mon_screen.specs.Around.{several}

module _ (line : ℕ → List ℕ) (next : ℕ → ℕ) where
  first : (n m at : ℕ) → n ≡ m + 1
      → several n line next at ≡ line at ++ several m line next (next at)
  unfolding several
  first zero m at e = absurd (omega (arith, e))
  first (suc n) m at e =
      let same : n ≡ m = omega (arith, e) in ap (λ k. line at ++ several k line next (next at)) same

  pub line_shown : (n m at then : ℕ) (text more whole : List ℕ) → n ≡ m + 1
      → more ≡ text ++ line at → then ≡ next at
      → text ++ several n line next at ≡ whole → more ++ several m line next then ≡ whole
  line_shown n m at then text more whole e grown to before =
      (λ i. grown i ++ several m line next (to i))
      ∙ append_assoc text (line at) (several m line next (next at))
      ∙ sym (ap (λ l. text ++ l) (first n m at e)) ∙ before

  none : (n at : ℕ) → n ≡ 0 → several n line next at ≡ []
  unfolding several
  none zero at e = refl
  none (suc n) at e = absurd (omega (arith, e))

  pub all_shown : (n at : ℕ) (text whole : List ℕ) → n ≡ 0
      → text ++ several n line next at ≡ whole → text ≡ whole
  all_shown n at text whole e before =
      sym (append-nil text) ∙ sym (ap (λ l. text ++ l) (none n at e)) ∙ before
