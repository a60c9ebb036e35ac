-- The frames of the stack, one entry after another.
use Rattle.std.proofs.Common.{◌≡◌, ◌∙◌, ℕ, zero, suc, ◌+◌, ◌<◌, ◌≤◌, Bool, true, false, cond, List, [], ◌∷◌, ◌++◌, nat_le, refl, sym, ap, arith, append_assoc, append-nil}
use Rattle.std.proofs.lemmas.Bool.Decides.{nat_tests}
use Rattle.dap_views.specs.Frames.{frame_of, frames_from}
use Rattle.dap_views.specs.declared.stack.Frame.{Frame}
use Rattle.mon_texts.specs.Pushed.{entry_len, pushed_at}
use Rattle.source_map.specs.declared.rows.Row.{Row}

is_past : (address : ℕ) → 512 ≤ address → nat_le 512 address ≡ true
is_past address h = grind (arith, nat_tests)

is_on : (address : ℕ) → address < 512 → nat_le 512 address ≡ false
is_on address h = grind (arith, nat_tests)

module _ (memory : List ℕ) (lines : List Row) where
  abbrev here : ℕ → List Frame
  here a = frame_of a (pushed_at memory lines a)

  abbrev len : ℕ → ℕ
  len a = entry_len memory lines a

  abbrev behind : ℕ → ℕ → Bool → List Frame
  behind n a past = cond past [] (here a ++ frames_from n memory lines (a + len a))

  -- no entry is left: the stack ends there, or as many were looked at as it can have
  pub none_on_stack : (n : ℕ) (a : ℕ) → 512 ≤ a → frames_from n memory lines a ≡ []
  unfolding frames_from
  none_on_stack zero a h = refl
  none_on_stack (suc n) a h = ap (behind n a) (is_past a h)

  pub none_left : (n : ℕ) (a : ℕ) → n ≡ 0 → frames_from n memory lines a ≡ []
  unfolding frames_from
  none_left zero a h = refl
  none_left (suc n) a h = absurd (omega (arith, h))

  next_entry : (n m : ℕ) (a : ℕ) → n ≡ m + 1 → a < 512
      → frames_from n memory lines a ≡ here a ++ frames_from m memory lines (a + len a)
  unfolding frames_from
  next_entry zero m a e h = absurd (omega (arith, e))
  next_entry (suc n) m a e h =
      let same : n ≡ m = omega (arith, e) in
      ap (behind n a) (is_on a h) ∙ ap (λ k. here a ++ frames_from k memory lines (a + len a)) same

  pub entry_found : (n m : ℕ) (a b : ℕ) (found next whole : List Frame) → n ≡ m + 1 → a < 512
      → b ≡ a + len a → next ≡ found ++ here a → found ++ frames_from n memory lines a ≡ whole
      → next ++ frames_from m memory lines b ≡ whole
  entry_found n m a b found next whole e h to grown before =
      (λ i. grown i ++ frames_from m memory lines (to i))
      ∙ append_assoc found (here a) (frames_from m memory lines (a + len a))
      ∙ sym (ap (λ l. found ++ l) (next_entry n m a e h)) ∙ before

pub all_found : (rest found whole : List Frame) → rest ≡ [] → found ++ rest ≡ whole → found ≡ whole
all_found rest found whole none before = sym (append-nil found) ∙ sym (ap (λ l. found ++ l) none) ∙ before
