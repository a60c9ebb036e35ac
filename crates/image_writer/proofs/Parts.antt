-- A part of an image, cell by cell.
use Rattle.std.proofs.Common.{◌≡◌, ℕ, ◌+◌, ◌<◌, ◌≤◌, ◌&&◌, Bool, true, false, leb, ltb, cond, List, length, get_or, set, Option, None, Some, refl, sym, ap, ◌∙◌, arith, inl, inr}
use Rattle.std.proofs.lemmas.Bool.{and_parts, cases_Bool, cases_eq, cases_lt, le-leb, leb-true, lt-leb, lt-ltb, le-ltb, ltb-true}
use Rattle.std.proofs.lemmas.List.{get_or-set_other, get_or-set_same, length-set}
use Rattle.model.specs.Image.{cell_at, empty_image}
use Rattle.image_writer.specs.Window.{filled_with, is_inside, with_cell}
use Rattle.image_writer.proofs.RawBytes.{empty_at, empty_size}

abbrev Cells : Type 0
Cells = List (Option ℕ)

-- what of a cell was put where the addresses up to one are done
abbrev pub so_far : ℕ → ℕ → Option ℕ → Cells → ℕ → Option ℕ
so_far low end fill image k = cond (leb low k && ltb k end) (filled_with fill (cell_at image k)) None

pub part_size : (part : Cells) → part ≡ empty_image → length part ≡ 65536
part_size part e = ap length e ∙ empty_size 65536 refl

pub none_yet : (low : ℕ) (fill : Option ℕ) (image part : Cells) → part ≡ empty_image → (k : ℕ) → cell_at part k ≡ so_far low low fill image k
none_yet low fill image part e k =
    let nothing : cell_at part k ≡ None = ap (λ (c : Cells). get_or c k None) e ∙ empty_at 65536 k refl in
    elim (cases_Bool (leb low k && ltb k low)) [
      | inl t ↦
          let both = and_parts (leb low k) (ltb k low) t in
          absurd (omega (arith, leb-true low k both.0, ltb-true k low both.1))
      | inr f ↦ rw f nothing
    ]

with_size : (part : Cells) (i : ℕ) (cell : Option ℕ) → length (with_cell part i cell) ≡ length part
with_size part i None = refl
with_size part i (Some b) = length-set part i (Some b)

pub size_kept : (part new : Cells) (i : ℕ) (cell : Option ℕ) → new ≡ with_cell part i cell → length part ≡ 65536 → length new ≡ 65536
size_kept part new i cell e size = ap length e ∙ with_size part i cell ∙ size

pub there : (part : Cells) (i : ℕ) (cell : Option ℕ) → i < length part → cell_at part i ≡ None → cell_at (with_cell part i cell) i ≡ cell
there part i None below none = none
there part i (Some b) below none = get_or-set_same part i (Some b) None below

pub elsewhere : (part : Cells) (i k : ℕ) (cell : Option ℕ) → (k ≡ i → ⊥) → cell_at (with_cell part i cell) k ≡ cell_at part k
elsewhere part i k None other = refl
elsewhere part i k (Some b) other = get_or-set_other part i k (Some b) None other

pub ltb_next : (k i : ℕ) → (k ≡ i → ⊥) → ltb k (i + 1) ≡ ltb k i
ltb_next k i other = elim (cases_lt k i) [
  | inl below ↦ lt-ltb k (i + 1) (omega (arith, below)) ∙ sym (lt-ltb k i below)
  | inr above ↦ le-ltb k (i + 1) (omega (arith, above, other)) ∙ sym (le-ltb k i above)
]

-- one cell more
pub one_cell : (low i : ℕ) (fill cell : Option ℕ) (image part new : Cells) → low ≤ i → i < 65536 → length part ≡ 65536
    → cell ≡ filled_with fill (cell_at image i) → new ≡ with_cell part i cell
    → ((k : ℕ) → cell_at part k ≡ so_far low i fill image k) → (k : ℕ) → cell_at new k ≡ so_far low (i + 1) fill image k
one_cell low i fill cell image part new le top size is put before k =
    elim (cases_eq k i) [
      | inl e ↦
          let here : so_far low i fill image i ≡ None = rw (le-leb low i le, le-ltb i i (omega arith)) refl in
          let this_one : cell_at new i ≡ so_far low (i + 1) fill image i =
          ap (λ (c : Cells). get_or c i None) put ∙ there part i cell (omega (arith, size, top)) (before i ∙ here) ∙ is
          ∙ rw (le-leb low i le, lt-ltb i (i + 1) (omega arith)) refl in
          rw e this_one
      | inr other ↦
          ap (λ (c : Cells). get_or c k None) put ∙ elsewhere part i k cell other ∙ before k
          ∙ ap (λ (t : Bool). cond (leb low k && t) (filled_with fill (cell_at image k)) None) (sym (ltb_next k i other))
    ]

ltb_leb : (k high : ℕ) → ltb k (high + 1) ≡ leb k high
ltb_leb k high = elim (cases_lt high k) [
  | inl above ↦ le-ltb k (high + 1) (omega (arith, above)) ∙ sym (lt-leb k high above)
  | inr le ↦ lt-ltb k (high + 1) (omega (arith, le)) ∙ sym (le-leb k high le)
]

-- all cells
pub all_cells : (low high end : ℕ) (fill : Option ℕ) (image part : Cells) → end ≡ high + 1 → ((k : ℕ) → cell_at part k ≡ so_far low end fill image k)
    → (k : ℕ) → cell_at part k ≡ cond (is_inside low high k) (filled_with fill (cell_at image k)) None
all_cells low high end fill image part e each k =
    each k
    ∙ ap (λ (n : ℕ). cond (leb low k && ltb k n) (filled_with fill (cell_at image k)) None) e
    ∙ ap (λ (t : Bool). cond (leb low k && t) (filled_with fill (cell_at image k)) None) (ltb_leb k high)
