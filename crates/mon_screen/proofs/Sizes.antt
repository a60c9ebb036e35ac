-- How many rows a screen has, and how many cells each.
use Rattle.std.proofs.Common.{◌≡◌, ◌∙◌, ◌≤◌, ℕ, zero, suc, ◌+◌, ◌-◌, ◌/◌, List, [], ◌∷◌, ◌++◌, length, take, refl, ap, ap₂, arith, length-append, length-take}
use Rattle.std.proofs.Math.Nat.{min-le_left}
use Rattle.std.proofs.lemmas.List.{length-replicate}
use Rattle.std.proofs.lemmas.List.Elements.{All-append, All-cons}
use Rattle.std.specs.List.{All, flat_map}
use Rattle.formatting.specs.Padding.{blanks, padded}
use Rattle.model.specs.State.{State}
use Rattle.source_map.specs.Lines.{PlacesView}
use Rattle.mon_screen.specs.Cells.{behind_line, beside, block, cell, cells, first_line, row}
use Rattle.mon_screen.specs.View.{answer_block, answer_rows, console_block, memory_block, middle_block, middle_rows, part_rows, registers_block, stack_columns, view_rows}
use Rattle.mon_screen.specs.declared.view.View.{View}

-- ---- one row

length-cell : (line : List ℕ) → length (flat_map cell line) ≡ length line
length-cell [] = refl
length-cell (b ∷ line) = ap suc (length-cell line)

length-cells : (width : ℕ) (line : List ℕ) → length (cells width line) ≡ width
unfolding cells padded
length-cells width line =
    let shown = flat_map cell (take (width - 1) line) in
    omega (
      arith,
      length-append shown (blanks (width - length shown)),
      length-replicate {A = ℕ} (width - length shown) 32,
      length-cell
          (take (width - 1) line),
      length-take (width - 1) line,
    )

-- ---- rows

abbrev IsWide : ℕ → List (List ℕ) → Type 0
IsWide columns rows = All (λ row. length row ≡ columns) rows

pub record Are (count columns : ℕ) (rows : List (List ℕ)) : Type 0 where
  pub number : length rows ≡ count
  pub wide : IsWide columns rows

both : (m n columns : ℕ) (a b : List (List ℕ)) → Are m columns a → Are n columns b
    → Are (m + n) columns (a ++ b)
both m n columns a b p q = record {
  number = length-append a b ∙ ap₂ (λ i j. i + j) p.number q.number;
  wide = All-append (λ row. length row ≡ columns) a b p.wide q.wide;
}

are_beside : (count left right columns : ℕ) (one other : List ℕ) → left + right ≡ columns
    → Are count columns (beside count left right one other)
unfolding beside
are_beside zero left right columns one other e = record { number = refl; wide = λ k d h. absurd (omega (arith, h)) }
are_beside (suc n) left right columns one other e =
    let rest = are_beside n left right columns (behind_line one) (behind_line other) e in record {
      number = ap suc rest.number;
      wide = All-cons (λ r. length r ≡ columns) (row left right one other)
          (beside n left right (behind_line one) (behind_line other))
          (length-append (cells left (first_line one)) (cells right (first_line other))
          ∙ (λ i. length-cells left (first_line one) i + length-cells right (first_line other) i) ∙ e)
          rest.wide;
    }

are_block : (count columns : ℕ) (text : List ℕ) → Are count columns (block count columns text)
are_block count columns text = are_beside count columns 0 columns text [] (omega arith)

-- ---- the screen

module _ (view : View) (state : State) (places : PlacesView) (said : List ℕ) where
  abbrev rows : ℕ
  rows = view.size.rows

  abbrev columns : ℕ
  columns = view.size.columns

  -- registers, the middle, memory, the console, the answer
  abbrev parts : ℕ
  parts = 1 + 1 + middle_rows rows + (part_rows rows + part_rows rows) + (1 + part_rows rows)
      + (1 + answer_rows rows)

  titled_are : (count : ℕ) (title text : List ℕ)
      → Are (1 + count) columns (block 1 columns title ++ block count columns text)
  titled_are count title text
      = both 1 count columns _ _ (are_block 1 columns title) (are_block count columns text)

  registers_are : Are (1 + 1) columns (registers_block view state places)
  registers_are = both 1 1 columns _ _ (are_block 1 columns _) (are_block 1 columns _)

  middle_are : Are (middle_rows rows) columns (middle_block view.size state places)
  middle_are
      = are_beside (middle_rows rows) (columns - stack_columns columns) (stack_columns columns) columns
      _ _ (omega (arith, min-le_left (columns / 2) 50))

  memory_are : Are (part_rows rows + part_rows rows) columns (memory_block view state.bus.memory)
  memory_are = both (part_rows rows) (part_rows rows) columns _ _
      (are_block (part_rows rows) columns _) (are_block (part_rows rows) columns _)

  console_are : Are (1 + part_rows rows) columns (console_block view.size state.bus.out)
  console_are = titled_are (part_rows rows) _ _

  answer_are : Are (1 + answer_rows rows) columns (answer_block view said)
  answer_are = titled_are (answer_rows rows) _ _

  pub are : Are parts columns (view_rows view state places said)
  unfolding view_rows
  are = both _ _ columns _ _ (both _ _ columns _ _ (both _ _ columns _ _
      (both _ _ columns _ _ registers_are middle_are) memory_are) console_are) answer_are

  pub rows_are : 24 ≤ rows → rows ≤ 100 → length (view_rows view state places said) + 1 ≡ rows
  rows_are least most = let number = are.number in omega (arith, number, least, most)
