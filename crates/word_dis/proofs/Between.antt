-- A part of an image, cell by cell.
use Rattle.std.proofs.Common.{◌≡◌, ◌≢◌, ℕ, suc, ◌+◌, ◌<◌, ◌≤◌, List, length, Option, Some, None, refl, sym, ap, subst, ◌∙◌, arith, inl, inr, replicate, get_or, get_or-set_other, get_or-set_same}
use Rattle.std.specs.Prelude.{slice_set}
use Rattle.std.proofs.lemmas.List.{get_or-replicate, get_or_past, length-replicate, length-set}
use Rattle.std.proofs.lemmas.Bool.Decides.{leb_tells}
use Rattle.image_writer.specs.Window.{with_cell}
use borrow.Author.Count.{below_more}
use Rattle.model.specs.Image.{empty_image, cell_at}
use Rattle.word_dis.specs.Marks.{cell_between}

-- below an address the cells are those of the part between two addresses, and from it on there are none
pub record IsPart (cells part : List (Option ℕ)) (first last address : ℕ) : Type 0 where
  pub size : length part ≡ 65536
  pub done : (a : ℕ) → a < address → cell_at part a ≡ cell_between cells first last a
  pub rest : (a : ℕ) → address ≤ a → cell_at part a ≡ None

-- the same of a part whose cells each have some fact
pub record IsBegun (each : ℕ → Option ℕ → Type 0) (part : List (Option ℕ)) (address : ℕ) : Type 0 where
  pub size : length part ≡ 65536
  pub done : (a : ℕ) → a < address → each a (cell_at part a)
  pub rest : (a : ℕ) → address ≤ a → cell_at part a ≡ None

none_at : (n a : ℕ) → get_or (replicate {A = Option ℕ} n None) a None ≡ None
none_at n a = elim (leb_tells (suc a) n) [
  | inl inside ↦ get_or-replicate n a None None inside.1
  | inr past ↦ get_or_past (replicate {A = Option ℕ} n None) a None (omega (arith, past.1, length-replicate {A = Option ℕ} n None))
]

empty_is : (n : ℕ) → n ≡ 65536 → replicate {A = Option ℕ} n None ≡ empty_image
unfolding empty_image
empty_is n e = ap (λ (k : ℕ). replicate {A = Option ℕ} k None) e

empty_at : (a n : ℕ) → n ≡ 65536 → cell_at empty_image a ≡ None
empty_at a n e = sym (ap (λ (cells : List (Option ℕ)). cell_at cells a) (empty_is n e)) ∙ none_at n a

pub begun : (cells : List (Option ℕ)) (first last : ℕ) (part : List (Option ℕ)) → part ≡ empty_image → length part ≡ 65536 → IsPart cells part first last 0
begun cells first last part e size = record {
  size = size;
  done = λ a h. absurd (omega (arith, h));
  rest = λ a h. ap (λ (x : List (Option ℕ)). cell_at x a) e ∙ empty_at a 65536 refl;
}

pub turn : (cells part : List (Option ℕ)) (first last a : ℕ) → IsPart cells part first last a → a < 65536
    → IsPart cells (with_cell part a (cell_between cells first last a)) first last (a + 1)
turn cells part first last a p below = by (cell_between cells first last a) refl
  where
    by : (c : Option ℕ) → cell_between cells first last a ≡ c → IsPart cells (with_cell part a c) first last (a + 1)
    by None e = record {
      size = p.size;
      done = below_more (λ (i : ℕ). cell_at part i ≡ cell_between cells first last i) a p.done (p.rest a (omega arith) ∙ sym e);
      rest = λ i after. p.rest i (omega (arith, after));
    }
    by (Some b) e = record {
      size = length-set part a (Some b) ∙ p.size;
      done = below_more (λ (i : ℕ). cell_at (slice_set part a (Some b)) i ≡ cell_between cells first last i) a
          (λ i h. let apart : i ≢ a = omega arith in get_or-set_other part a i (Some b) None apart ∙ p.done i h)
          (get_or-set_same part a (Some b) None (omega (arith, p.size, below)) ∙ sym e);
      rest = λ i after. let apart : i ≢ a = omega (arith, after) in get_or-set_other part a i (Some b) None apart ∙ p.rest i (omega (arith, after));
    }

pub begun_each : (each : ℕ → Option ℕ → Type 0) (part : List (Option ℕ)) → part ≡ empty_image → length part ≡ 65536 → IsBegun each part 0
begun_each each part e size = record {
  size = size;
  done = λ a h. absurd (omega (arith, h));
  rest = λ a h. ap (λ (x : List (Option ℕ)). cell_at x a) e ∙ empty_at a 65536 refl;
}

pub turn_each : (each : ℕ → Option ℕ → Type 0) (part new : List (Option ℕ)) (a : ℕ) (cell : Option ℕ) → IsBegun each part a → a < 65536 → each a cell
    → new ≡ with_cell part a cell → IsBegun each new (a + 1)
turn_each each part new a None p below here put = subst (λ (x : List (Option ℕ)). IsBegun each x (a + 1)) (sym put) (record {
  size = p.size;
  done = below_more (λ (i : ℕ). each i (cell_at part i)) a p.done (subst (each a) (sym (p.rest a (omega arith))) here);
  rest = λ i after. p.rest i (omega (arith, after));
})
turn_each each part new a (Some b) p below here put = subst (λ (x : List (Option ℕ)). IsBegun each x (a + 1)) (sym put) (record {
  size = length-set part a (Some b) ∙ p.size;
  done = below_more (λ (i : ℕ). each i (cell_at (slice_set part a (Some b)) i)) a
      (λ i h. let apart : i ≢ a = omega arith in subst (each i) (sym (get_or-set_other part a i (Some b) None apart)) (p.done i h))
      (subst (each a) (sym (get_or-set_same part a (Some b) None (omega (arith, p.size, below)))) here);
  rest = λ i after. let apart : i ≢ a = omega (arith, after) in get_or-set_other part a i (Some b) None apart ∙ p.rest i (omega (arith, after));
})
