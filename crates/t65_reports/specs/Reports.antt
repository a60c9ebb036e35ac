-- TAP, and the report for JUnit. Source: mos65, for the formats TAP 13, whose text is UTF-8, and
-- JUnit's XML: XML 1.0, 2.2 for the characters that it has, and 2.4 for those that are escaped.
use Rattle.std.specs.Prelude.{ℕ, ◌-◌, ◌==◌, ◌&&◌, ◌||◌, Bool, true, false, not, if◌then◌else◌, List, [], ◌∷◌, ◌++◌, Option, None, Some, codes, decimal, drop, length, take}
use Rattle.std.specs.Char.{is_ascii_whitespace}
use Rattle.std.specs.Option.{is_some}
use Rattle.std.specs.Str.Lines.{lines}
use Rattle.std.specs.List.{flat_map, prefix_len, suffix_len}
use Rattle.t65_reports.specs.declared.wording.TheConstants.{AT_LINE, CASE, CASE_END, CASE_FAILS, CASE_PASSES, FAILS, FAILURES, FAULT_NAME, IN_FILE, LINE, PASSES, QUOTE, SUITE, TAG_END, TESTS}
use Rattle.t65_values.specs.Visible.{characters, visible_character}
use Rattle.t65_reports.specs.declared.reports.Quoted.{Quoted}
use Rattle.t65_reports.specs.declared.reports.Quoted.TheVariants.{Outside, Inside, Escaped}
use Rattle.t65_reports.specs.declared.reports.Score.{Score}

-- ---- the text of a row

-- A comment begins with a `;` that is in no string.
abbrev pub begins_comment : ℕ → Quoted → Bool
begins_comment b Outside = b == 59
begins_comment b Inside = false
begins_comment b Escaped = false

-- Where the byte stands behind a byte: a `"` ends a string, but not behind a `\`.
abbrev pub behind : ℕ → Quoted → Quoted
behind b Outside = if b == 34 then Inside else Outside
behind b Inside = if b == 34 then Outside else if b == 92 then Escaped else Inside
behind b Escaped = Inside

-- What stands before a comment.
abbrev pub before_comment : Quoted → List ℕ → List ℕ
before_comment quoted [] = []
before_comment quoted (b ∷ bs) = if begins_comment b quoted then []
    else b ∷ before_comment (behind b quoted) bs

abbrev pub without_front_blanks : List ℕ → List ℕ
without_front_blanks text = drop (prefix_len is_ascii_whitespace text) text

abbrev pub without_end_blanks : List ℕ → List ℕ
without_end_blanks text = take (length text - suffix_len is_ascii_whitespace text) text

-- A row's text without its comment, and without blanks in front of it and behind it.
unfoldable pub row_of : List ℕ → List ℕ
row_of line = without_end_blanks (without_front_blanks (before_comment Outside line))

-- ---- TAP

-- A `\` stands before `#` and `\`.
abbrev pub tap_character : ℕ → List ℕ
tap_character c = if (c == 35) || (c == 92) then 92 ∷ visible_character c
    else visible_character c

-- A name, and why a file cannot be tested.
abbrev pub tap_name : List ℕ → List ℕ
tap_name name = flat_map tap_character (characters name)

abbrev pub tap_text : List ℕ → List ℕ
tap_text text = tap_name (row_of text)

abbrev pub verdict : Bool → List ℕ
verdict true = FAILS.now
verdict false = PASSES.now

-- The row of TAP for a row of a file, by its number among all rows: whether it fails, the file, the
-- line, and its text.
unfoldable pub tap_row : Bool → ℕ → List ℕ → ℕ → List ℕ → List ℕ
tap_row failed count file line text = verdict failed ++ decimal count ++ codes " - "
    ++ tap_name file ++ codes ":" ++ decimal line ++ codes " " ++ tap_text text ++ 10 ∷ []

-- A line of why a row fails, as TAP has it.
abbrev pub tap_comment : List ℕ → List ℕ
tap_comment line = codes "# " ++ line ++ codes "\n"

-- The lines of why a row fails, if it does.
abbrev pub tap_detail : Option (List ℕ) → List ℕ
tap_detail None = []
tap_detail (Some why) = flat_map tap_comment (lines why)

-- What TAP tells of a row, by its number among all rows: its row, and why it fails, if it does.
abbrev pub tap_case : ℕ → List ℕ → ℕ → List ℕ → Option (List ℕ) → List ℕ
tap_case count file line text why
    = tap_row (is_some why) count file line text ++ tap_detail why

-- The row of TAP for a file that cannot be tested, by the number of that test among all.
unfoldable pub tap_title : ℕ → List ℕ → List ℕ → List ℕ
tap_title number file title = FAILS.now ++ decimal number ++ codes " - " ++ tap_name file
    ++ codes ": " ++ tap_name title ++ 10 ∷ []

-- What TAP tells of such a file: why, in a few words, and remarks.
abbrev pub tap_fault : ℕ → List ℕ → List ℕ → List ℕ → List ℕ
tap_fault number file title remarks = tap_title number file title ++ tap_detail (Some remarks)

unfoldable pub score_text : Score → List ℕ
score_text score = decimal score.passed ++ codes " passed, " ++ decimal score.failed
    ++ codes " failed, " ++ decimal score.earned ++ codes " of " ++ decimal score.worth
    ++ codes " points\n"

-- A comment of TAP: what the tests of a file have come to.
abbrev pub summary_text : List ℕ → Score → List ℕ
summary_text file score = codes "# " ++ tap_name file ++ codes ": " ++ score_text score

-- How many tests there are.
abbrev pub plan_text : ℕ → List ℕ
plan_text count = codes "1.." ++ decimal count ++ codes "\n"

-- ---- JUnit

-- A character as XML has it in values.
abbrev pub value_character : ℕ → List ℕ
value_character c = if c == 38 then codes "&amp;" else if c == 60 then codes "&lt;"
    else if c == 62 then codes "&gt;" else if c == 34 then codes "&quot;"
    else visible_character c

abbrev pub xml_value : List ℕ → List ℕ
xml_value text = flat_map value_character (characters text)

-- Between tags lines end where they do.
abbrev pub xml_character : ℕ → List ℕ
xml_character c = if c == 10 then 10 ∷ [] else value_character c

abbrev pub xml : List ℕ → List ℕ
xml text = flat_map xml_character (characters text)

abbrev pub first_line : List ℕ → List ℕ
first_line text = take (prefix_len (λ b. not (b == 10)) text) text

abbrev pub numbers_text : ℕ → ℕ → List ℕ
numbers_text tests failed
    = TESTS.now ++ decimal tests ++ FAILURES.now ++ decimal failed ++ QUOTE.now

-- The head of a suite of so many tests, of which so many fail.
unfoldable pub suite_head : List ℕ → ℕ → ℕ → List ℕ
suite_head file tests failed
    = SUITE.now ++ xml_value file ++ numbers_text tests failed ++ codes ">\n"

-- Why a test fails, in a few words and in all.
abbrev pub case_fails : List ℕ → List ℕ → List ℕ
case_fails message why
    = CASE_FAILS.now ++ xml_value message ++ TAG_END.now ++ xml why ++ CASE_END.now

abbrev pub case_end : Option (List ℕ) → List ℕ
case_end None = CASE_PASSES.now
case_end (Some why) = case_fails (first_line why) why

abbrev pub line_text : ℕ → List ℕ
line_text line = LINE.now ++ decimal line ++ codes ": "

-- The place of a test: a file of rows, and a line of it.
abbrev pub place_text : List ℕ → ℕ → List ℕ
place_text rows line = IN_FILE.now ++ xml_value rows ++ AT_LINE.now ++ decimal line

unfoldable pub case_front : List ℕ → List ℕ → ℕ → List ℕ → List ℕ
case_front file rows line text = CASE.now ++ xml_value file
    ++ line_text line ++ xml_value (row_of text) ++ place_text rows line

-- What is told of a row: the suite, the file of rows, the line, its text, and why it fails, if it
-- does.
abbrev pub junit_case : List ℕ → List ℕ → ℕ → List ℕ → Option (List ℕ) → List ℕ
junit_case file rows line text why = case_front file rows line text ++ case_end why

abbrev pub fault_front : List ℕ → List ℕ → ℕ → List ℕ
fault_front file rows line
    = CASE.now ++ xml_value file ++ FAULT_NAME.now ++ place_text rows line

-- What is told of a file that cannot be tested: a test of its own, which fails.
abbrev pub junit_fault : List ℕ → List ℕ → ℕ → List ℕ → List ℕ → List ℕ
junit_fault file rows line title remarks
    = fault_front file rows line ++ case_fails title remarks
