-- A source whose strings have the numbers that end them on their lines. Source: mos65.
use Rattle.std.specs.Prelude.{ℕ, zero, suc, ◌+◌, ◌-◌, ◌*◌, ◌==◌, ◌&&◌, nat_lt, Bool, if◌then◌else◌, List, [], ◌∷◌, ◌++◌, codes, drop, take, length, Option, Some, None}
use Rattle.std.specs.List.{starts_with}
use Rattle.assembler.specs.Lines.{LineView}
use Rattle.source_forms.specs.Rows.{is_kind, mark_at}
use Rattle.source_forms.specs.declared.mark.Mark.{Mark}
use Rattle.source_forms.specs.declared.mark.Mark.TheVariants.{Text}

-- A line of letters, and one of numbers with nothing behind them.
abbrev pub is_letters : List ℕ → Bool
is_letters line = starts_with (λ a b. a == b) line (codes ".BYTE " ++ 34 ∷ [])

abbrev pub is_numbers : LineView → Bool
is_numbers l = starts_with (λ a b. a == b) l.text (codes ".BYTE $")
    && (length l.text == 5 + 4 * l.count)

-- How many addresses from one on are marked as text, at most so many.
unfoldable pub text_count : List Mark → ℕ → ℕ → ℕ
text_count marks zero address = 0
text_count marks (suc n) address = if is_kind Text (mark_at marks address)
    then suc (text_count marks n (address + 1)) else 0

-- How many numbers of a line go behind the letters of the line before it: those that are marked as
-- text. Such a line has at most eight.
abbrev pub count_joined : List Mark → LineView → LineView → ℕ
count_joined marks before l =
    if is_letters before.text && is_numbers l && (before.address + before.count == l.address)
    then text_count marks (if nat_lt l.count 8 then l.count else 8) l.address else 0

-- Numbers that all go there, and so many of them with the rest on a line of their own.
abbrev pub joined_numbers : ℕ → LineView → List ℕ
joined_numbers count l = if count == l.count then 44 ∷ drop 6 l.text
    else 44 ∷ take (4 * count - 1) (drop 6 l.text)
    ++ (codes "\n.BYTE " ++ drop (4 * count) (drop 6 l.text))

-- A line behind another: on the same line, or on its own.
abbrev pub behind_line : ℕ → LineView → List ℕ
behind_line count l = if count == 0 then 10 ∷ l.text else joined_numbers count l

-- A line behind the one before it, if there is one.
abbrev pub joined_line : List Mark → Option LineView → LineView → List ℕ
joined_line marks None l = l.text
joined_line marks (Some before) l = behind_line (count_joined marks before l) l

-- The end of the last line, if there is one.
abbrev pub last_end : Option LineView → List ℕ
last_end None = []
last_end (Some before) = codes "\n"

unfoldable pub joined_from : List Mark → Option LineView → List LineView → List ℕ
joined_from marks before [] = last_end before
joined_from marks before (l ∷ ls)
    = joined_line marks before l ++ joined_from marks (Some l) ls
