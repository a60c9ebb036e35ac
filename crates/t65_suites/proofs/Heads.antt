-- The way to the head of a file.
use Rattle.std.proofs.Common.{◌≡◌, ℕ, ◌+◌, List, [], ◌∷◌, true, false, refl, arith, length, Err}
use Rattle.model.specs.TextLines.{lines_from, lines_of}
use Rattle.t65_suites.specs.HeadText.{head_from, head_in_line, head_of}
use Rattle.t65_values.specs.ValueText.{ends, skip_blanks}
use Rattle.t65_values.specs.declared.fault.RowFaultKind.TheVariants.{NoSource}

pub skipped : (number : ℕ) (line front : List ℕ) (lines : List (List ℕ)) → front ≡ skip_blanks line → ends front ≡ true
    → head_from number (line ∷ lines) ≡ head_from (number + 1) lines
unfolding head_from
skipped number line front lines e h = rw (← e, h) refl

pub headed : (number : ℕ) (line front : List ℕ) (lines : List (List ℕ)) → front ≡ skip_blanks line → ends front ≡ false
    → head_from number (line ∷ lines) ≡ head_in_line number line lines (head_of front)
unfolding head_from
headed number line front lines e h = rw (← e, h) refl

pub unheaded : (number : ℕ) (text : List ℕ) → length text ≡ 0
    → head_from number (lines_of text) ≡ Err (record { line = number; column = 1; kind = NoSource })
unfolding head_from lines_from
unheaded number (b ∷ text) h = absurd (omega arith)
unheaded number [] h = refl
