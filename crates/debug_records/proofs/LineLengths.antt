-- A line of a text is no longer than the text.
use Rattle.std.proofs.Common.{◌≡◌, ℕ, ◌+◌, ◌-◌, ◌≤◌, Bool, true, false, cond, List, [], ◌∷◌, ◌++◌, length, length-append, take, ap, arith, inl, inr}
use Rattle.std.specs.Prelude.{◌==◌}
use Rattle.std.specs.Io.BufRead.{ends_with_byte, strip_last}
use Rattle.std.proofs.lemmas.Bool.Decides.{eqb_tells}
use Rattle.std.proofs.lemmas.List.{length-take-le}
use Rattle.model.specs.TextLines.{last_line, lines_from, lines_of}

length-stripped : (byte : ℕ) (xs : List ℕ) → length (strip_last byte xs) ≤ length xs
length-stripped byte xs = by (ends_with_byte byte xs)
  where
    by : (b : Bool) → length (cond b (take (length xs - 1) xs) xs) ≤ length xs
    by true =
        let fewer : length xs - 1 ≤ length xs = omega arith in
        omega (arith, length-take-le (length xs - 1) xs fewer)
    by false = omega arith

-- with the line that has begun
length-line_from : (begun text line : List ℕ) (lines : List (List ℕ)) → lines_from last_line begun text ≡ line ∷ lines
    → length line ≤ length begun + length text
unfolding lines_from
length-line_from [] [] line lines h = absurd (cc)
length-line_from (b ∷ begun) [] line lines h =
    let same : line ≡ b ∷ begun = cc in
    omega (arith, ap length same)
length-line_from begun (b ∷ text) line lines h = elim (eqb_tells b 10) [
  | inl ends ↦
      let here = rw ends.0 at h in
      let same : line ≡ strip_last 13 begun = cc in
      omega (arith, ap length same, length-stripped 13 begun)
  | inr other ↦
      let later = rw other.0 at h in
      omega (arith, length-line_from (begun ++ b ∷ []) text line lines later, length-append begun (b ∷ []))
]

pub length-first_line : (text line : List ℕ) (lines : List (List ℕ)) → lines_of text ≡ line ∷ lines → length line ≤ length text
length-first_line text line lines h = omega (arith, length-line_from [] text line lines h)
