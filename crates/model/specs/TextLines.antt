-- Bytes cut into lines, as sources and command input are. Source: mos65.
use Rattle.std.specs.Prelude.{ℕ, List, [], ◌∷◌, ◌++◌, ◌==◌, if◌then◌else◌}
use Rattle.std.specs.Io.BufRead.{strip_last}

-- At the end of the input, what comes after the last LF is a line if it is not empty.
abbrev pub last_line : List ℕ → List (List ℕ)
last_line [] = []
last_line (b ∷ bs) = (b ∷ bs) ∷ []

-- If more may follow, it is not a line.
abbrev pub no_line : List ℕ → List (List ℕ)
no_line begun = []

-- The lines of some bytes, with a line begun already. LF ends a line, and so does CR LF: one CR
-- right before the LF is not part of the line.
unfoldable pub lines_from : (List ℕ → List (List ℕ)) → List ℕ → List ℕ → List (List ℕ)
lines_from ending begun [] = ending begun
lines_from ending begun (b ∷ bs) = if b == 10 then strip_last 13 begun ∷ lines_from ending [] bs
    else lines_from ending (begun ++ b ∷ []) bs

-- The lines of a whole text.
abbrev pub lines_of : List ℕ → List (List ℕ)
lines_of text = lines_from last_line [] text

-- The complete lines of a text of which more may follow.
abbrev pub ended_lines_of : List ℕ → List (List ℕ)
ended_lines_of text = lines_from no_line [] text
