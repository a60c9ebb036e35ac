-- The way over the lines of a text.
use Rattle.std.proofs.Common.{◌≡◌, ℕ, ◌+◌, List, [], ◌∷◌, ◌++◌, refl, ap, sym, append_assoc, append-nil, length, arith, Ok, Err}
use Rattle.model.specs.Names.{Definitions}
use Rattle.model.specs.TextLines.{lines_from, lines_of}
use Rattle.t65_values.specs.declared.fault.TextFault.{TextFault}
use Rattle.t65_reader.specs.CPrograms.{SeenProgram}
use Rattle.t65_reader.specs.RowText.{Rows, SeenAsking, SeenLine, line_before, line_of, one_before, points_of, rows_after, rows_from, worth_of}

pub after_none : (rows : Rows) → rows_after [] rows ≡ rows
unfolding rows_after
after_none (Ok rows) = refl
after_none (Err fault) = refl

pub line_pushed : (front : List SeenLine) (line : SeenLine) (behind : Rows) → rows_after front (one_before line behind) ≡ rows_after (front ++ line ∷ []) behind
unfolding rows_after
line_pushed front line (Ok lines) = ap (λ (x : List SeenLine). Ok x) (sym (append_assoc front (line ∷ []) lines))
line_pushed front line (Err fault) = refl

pub line_more : (asking : SeenAsking) (names : Definitions) (program : SeenProgram) (number : ℕ) (line : List ℕ) (lines : List (List ℕ))
    → rows_from asking names program number (line ∷ lines) ≡ line_before number line (line_of asking names program line)
    (rows_from asking names program (number + 1) lines)
unfolding rows_from
line_more asking names program number line lines = refl

pub after_fault : (front : List SeenLine) (rows : Rows) (fault : TextFault) → rows ≡ Err fault → rows_after front rows ≡ Err fault
unfolding rows_after
after_fault front rows fault h = rw h refl

pub at_end : (asking : SeenAsking) (names : Definitions) (program : SeenProgram) (number : ℕ) (front : List SeenLine) (text : List ℕ) → length text ≡ 0
    → rows_after front (rows_from asking names program number (lines_of text)) ≡ Ok front
unfolding rows_from rows_after lines_from
at_end asking names program number front (b ∷ text) h = absurd (omega arith)
at_end asking names program number front [] h = ap (λ (x : List SeenLine). Ok x) (append-nil front)

-- ---- points

pub points_more : (only : List ℕ) (points : ℕ) (line : List ℕ) (lines : List (List ℕ)) (worth whole : ℕ) → worth ≡ worth_of only line
    → points + points_of only (line ∷ lines) ≡ whole → (points + worth) + points_of only lines ≡ whole
unfolding points_of
points_more only points line lines worth whole is left = rw is (omega (arith, left))

pub no_points : (only : List ℕ) (points : ℕ) (text : List ℕ) (whole : ℕ) → length text ≡ 0 → points + points_of only (lines_of text) ≡ whole → points ≡ whole
unfolding points_of lines_from
no_points only points (b ∷ text) whole h left = absurd (omega arith)
no_points only points [] whole h left = omega (arith, left)
