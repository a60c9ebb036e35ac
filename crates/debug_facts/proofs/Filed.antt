-- The rows of files, one after another.
use Rattle.std.proofs.Common.{◌≡◌, ◌∙◌, ℕ, zero, suc, ◌+◌, ◌-◌, ◌<◌, ◌++◌, List, [], length, sym, ap, arith, append_assoc, append-nil}
use Rattle.debug_records.specs.Info.{Info}
use Rattle.debug_facts.specs.Rows.{file_row_at, file_rows, file_rows_from}
use Rattle.debug_files.specs.declared.changed.SourceState.{SourceState}

-- What was written, and what is left from a number on, are the first text and all rows.
pub record Left (info : Info) (states : List SourceState) (first made : List ℕ) (number : ℕ) : Type 0 where
  pub all : made ++ file_rows_from info states number (length info.files - number) ≡ first ++ file_rows info states

whole : (n : ℕ) → n - 0 ≡ n
whole n = omega arith

pub none_made : (info : Info) (states : List SourceState) (first : List ℕ) → Left info states first first 0
none_made info states first = record {
  all = ap (λ (n : ℕ). first ++ file_rows_from info states 0 n) (whole (length info.files));
}

one_row : (info : Info) (states : List SourceState) (number left count : ℕ) → left ≡ suc count
    → file_rows_from info states number left ≡ file_row_at info states number ++ file_rows_from info states (number + 1) count
unfolding file_rows_from
one_row info states number left count e = ap (file_rows_from info states number) e

pub row_made : (info : Info) (states : List SourceState) (first made new : List ℕ) (number : ℕ) → number < length info.files
    → new ≡ made ++ file_row_at info states number → Left info states first made number → Left info states first new (number + 1)
row_made info states first made new number h said l =
    let here = file_row_at info states number in
    let rest = file_rows_from info states (number + 1) (length info.files - (number + 1)) in
    record {
      all = ap (λ (m : List ℕ). m ++ rest) said ∙ (append_assoc made here rest
          ∙ (sym (ap (λ (t : List ℕ). made ++ t) (one_row info states number (length info.files - number)
          (length info.files - (number + 1)) (omega (arith, h)))) ∙ l.all));
    }

none_left : (info : Info) (states : List SourceState) (made whole : List ℕ) (number count : ℕ) → count ≡ 0
    → made ++ file_rows_from info states number count ≡ whole → made ≡ whole
unfolding file_rows_from
none_left info states made whole number count none e =
    sym (append-nil made) ∙ (sym (ap (λ (n : ℕ). made ++ file_rows_from info states number n) none) ∙ e)

pub all_rows : (info : Info) (states : List SourceState) (first made : List ℕ) (number : ℕ) → number ≡ length info.files
    → Left info states first made number → made ≡ first ++ file_rows info states
all_rows info states first made number e l
    = none_left info states made (first ++ file_rows info states) number (length info.files - number) (omega (arith, e)) l.all
