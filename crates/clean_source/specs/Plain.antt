-- What cleaning a source leaves as it is. Source: mos65.
use Rattle.std.specs.Prelude.{◌≡◌, ℕ, ◌≤◌, ◌==◌, ◌&&◌, ◌||◌, Bool, not, true, List, [], ◌∷◌, length, map, take}
use Rattle.std.specs.List.{list_all}
use Rattle.model.specs.Source.{most_bytes}
use Rattle.model.specs.TextLines.{lines_of}
use Rattle.model.specs.Token.{begins, is_source_byte}
use Rattle.clean_source.specs.Cleaned.{cleaned, cleaned_line, is_line_feed, unmarked}

-- Whether each byte of a text may be in a source, or is the end of a line: an LF, or a CR before one.
unfoldable pub is_plain : List ℕ → Bool
is_plain [] = true
is_plain (b ∷ bytes) = (is_source_byte b || (b == 10) || ((b == 13) && begins is_line_feed bytes))
    && is_plain bytes

-- Whether an LF follows each CR of a text.
unfoldable pub has_line_feeds : List ℕ → Bool
has_line_feeds [] = true
has_line_feeds (b ∷ bytes) = (not (b == 13) || begins is_line_feed bytes) && has_line_feeds bytes

-- ---- the laws

-- Such a text is read as it is.
abbrev pub PlainStays : Type 0
PlainStays = (source : List ℕ) → is_plain source ≡ true → cleaned source ≡ source

-- What was cleaned is clean.
abbrev pub CleanedStays : Type 0
CleanedStays = (source : List ℕ) → cleaned (cleaned source) ≡ cleaned source

-- Each line keeps its number; a mark at the start is no part of the first line.
abbrev pub LinesAreCleaned : Type 0
LinesAreCleaned = (source : List ℕ) → length source ≤ most_bytes
    → has_line_feeds source ≡ true
    → lines_of (cleaned source) ≡ map cleaned_line (lines_of (unmarked source))

-- A line's bytes stay where they are up to the first one that may not be in a source.
abbrev pub LineKeepsPlaces : Type 0
LineKeepsPlaces = (line : List ℕ) → (n : ℕ) → list_all is_source_byte (take n line) ≡ true
    → take n (cleaned_line line) ≡ take n line
