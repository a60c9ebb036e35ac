-- The image that is saved, address by address.
use Rattle.std.proofs.Common.{◌≡◌, ◌<◌, ◌≤◌, ◌∙◌, ℕ, ◌+◌, Bool, true, false, cond, List, Option, None, Some, length, set, replicate, arith, refl, sym, ap, length-set, inl, inr}
use Rattle.std.proofs.lemmas.Bool.{cases_lt}
use Rattle.std.proofs.lemmas.List.{get_or-replicate, get_or-set_same, get_or-set_other, get_or_past, length-replicate}
use Rattle.std.specs.Prelude.{slice_index}
use Rattle.model.specs.Image.{cell_at, empty_image}
use Rattle.model.specs.State.{Bus}
use Rattle.mon_files.specs.Saved.{is_saved, saved_at, with_saved}
use Rattle.mon_lines.specs.declared.command.Stretch.{Stretch}

-- The first n addresses have what is saved of them, and the others have nothing.
pub record IsSavedBelow (n : ℕ) (bus : Bus) (loaded : List Bool) (stretch : Option Stretch)
    (image : List (Option ℕ)) : Type 0 where
  pub size : length image ≡ 65536
  pub below : (a : ℕ) → a < n → cell_at image a ≡ saved_at bus loaded stretch a
  pub above : (a : ℕ) → n ≤ a → cell_at image a ≡ None

abbrev nones : ℕ → List (Option ℕ)
nones n = replicate n None

nones_size : (n : ℕ) → length (nones n) ≡ n
nones_size n = length-replicate n None

nothing_at : (n a : ℕ) → cell_at (replicate n None) a ≡ None
nothing_at n a = elim (cases_lt a n) [
  | inl within ↦ get_or-replicate n a None None within
  | inr past ↦ get_or_past (nones n) a None (omega (arith, past, nones_size n))
]

pub none_saved : (bus : Bus) (loaded : List Bool) (stretch : Option Stretch)
    → IsSavedBelow 0 bus loaded stretch empty_image
unfolding empty_image
none_saved bus loaded stretch = record {
  size = nones_size 65536;
  below = λ a h. absurd (omega (arith, h));
  above = λ a _. nothing_at 65536 a;
}

module _ (i : ℕ) (bus : Bus) (loaded : List Bool) (stretch : Option Stretch)
    (image : List (Option ℕ)) (within : i < 65536)
    (so_far : IsSavedBelow i bus loaded stretch image) where
  abbrev byte : Option ℕ
  byte = Some (slice_index bus.memory i)

  by : (t : Bool) → is_saved bus loaded stretch i ≡ t
      → IsSavedBelow (i + 1) bus loaded stretch (cond t (set image i byte) image)
  by true is = record {
    size = length-set image i byte ∙ so_far.size;
    below = λ a h. elim (cases_lt i a) [
      | inl later ↦ absurd (omega (arith, h, later))
      | inr upto ↦ elim (cases_lt i (a + 1)) [
        | inl here ↦ at a (omega (arith, upto, here))
        | inr earlier ↦ get_or-set_other image i a byte None (λ e. absurd (omega (arith, e, earlier))) ∙ so_far.below a (omega (arith, earlier))
      ]
    ];
    above = λ a h. get_or-set_other image i a byte None (λ e. absurd (omega (arith, e, h))) ∙ so_far.above a (omega (arith, h));
  }
    where
      at : (a : ℕ) → a ≡ i → cell_at (set image i byte) a ≡ saved_at bus loaded stretch a
      at a e = rw e (get_or-set_same image i byte None (omega (arith, within, so_far.size)) ∙ sym (ap (λ t. cond t byte None) is))
  by false is = record {
    size = so_far.size;
    below = λ a h. elim (cases_lt i (a + 1)) [
      | inl here ↦ at a (omega (arith, h, here))
      | inr earlier ↦ so_far.below a (omega (arith, earlier))
    ];
    above = λ a h. so_far.above a (omega (arith, h));
  }
    where
      at : (a : ℕ) → a ≡ i → cell_at image a ≡ saved_at bus loaded stretch a
      at a e = rw e (so_far.above i (omega arith) ∙ sym (ap (λ t. cond t byte None) is))

  pub one_saved : IsSavedBelow (i + 1) bus loaded stretch (with_saved bus loaded stretch i image)
  one_saved = by (is_saved bus loaded stretch i) refl
