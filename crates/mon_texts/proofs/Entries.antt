-- The entries of the stack, one after another.
use Rattle.std.proofs.Common.{◌≡◌, ◌∙◌, ℕ, zero, suc, ◌+◌, ◌<◌, ◌≤◌, Bool, true, false, cond, List, [], ◌++◌, nat_le, refl, sym, ap, arith, append_assoc, append-nil}
use Rattle.std.proofs.lemmas.Bool.Decides.{nat_tests}
use Rattle.mon_texts.specs.Pushed.{entries}

is_past : (address : ℕ) → 512 ≤ address → nat_le 512 address ≡ true
is_past address h = grind (arith, nat_tests)

is_on : (address : ℕ) → address < 512 → nat_le 512 address ≡ false
is_on address h = grind (arith, nat_tests)

module _ (f : ℕ → List ℕ) (len : ℕ → ℕ) where
  abbrev behind : ℕ → ℕ → Bool → List ℕ
  behind n a past = cond past [] (f a ++ entries n f len (a + len a))

  -- no entry is left: the stack ends there, or as many were shown as it can have
  pub none_on_stack : (n : ℕ) (a : ℕ) → 512 ≤ a → entries n f len a ≡ []
  unfolding entries
  none_on_stack zero a h = refl
  none_on_stack (suc n) a h = ap (behind n a) (is_past a h)

  pub none_left : (n : ℕ) (a : ℕ) → n ≡ 0 → entries n f len a ≡ []
  unfolding entries
  none_left zero a h = refl
  none_left (suc n) a h = absurd (omega (arith, h))

  next_entry : (n m : ℕ) (a : ℕ) → n ≡ m + 1 → a < 512
      → entries n f len a ≡ f a ++ entries m f len (a + len a)
  unfolding entries
  next_entry zero m a e h = absurd (omega (arith, e))
  next_entry (suc n) m a e h =
      let same : n ≡ m = omega (arith, e) in
      ap (behind n a) (is_on a h) ∙ ap (λ k. f a ++ entries k f len (a + len a)) same

  pub entry_shown : (n m : ℕ) (a b : ℕ) (text next whole : List ℕ) → n ≡ m + 1 → a < 512
      → b ≡ a + len a → next ≡ text ++ f a → text ++ entries n f len a ≡ whole
      → next ++ entries m f len b ≡ whole
  entry_shown n m a b text next whole e h to grown before =
      (λ i. grown i ++ entries m f len (to i))
      ∙ append_assoc text (f a) (entries m f len (a + len a))
      ∙ sym (ap (λ l. text ++ l) (next_entry n m a e h)) ∙ before

pub all_shown : (rest text whole : List ℕ) → rest ≡ [] → text ++ rest ≡ whole → text ≡ whole
all_shown rest text whole none before = sym (append-nil text) ∙ sym (ap (λ l. text ++ l) none) ∙ before
