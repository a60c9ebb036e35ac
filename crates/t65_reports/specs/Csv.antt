-- What the tests of suites have come to, as CSV. Source: RFC 4180 for fields; mos65.
use Rattle.std.specs.Prelude.{ℕ, ◌==◌, ◌||◌, Bool, if◌then◌else◌, List, [], ◌∷◌, ◌++◌, codes, decimal}
use Rattle.std.specs.List.{flat_map, list_any}
use Rattle.std.specs.Str.{byte}
use Rattle.t65_reports.specs.declared.reports.Score.{Score}

-- A field with a comma, a `"`, a CR or a LF stands between two `"`, and each `"` in it twice.
abbrev pub is_quoted_byte : ℕ → Bool
is_quoted_byte b = (b == byte ",") || (b == 34) || (b == 13) || (b == 10)

abbrev pub doubled : ℕ → List ℕ
doubled b = if b == 34 then 34 ∷ (34 ∷ []) else b ∷ []

abbrev pub doubled_all : List ℕ → List ℕ
doubled_all field = flat_map doubled field

abbrev pub csv_field : List ℕ → List ℕ
csv_field field = if list_any is_quoted_byte field then 34 ∷ (doubled_all field ++ 34 ∷ [])
    else field

-- How many tests pass and fail, the points of those that pass, and the points of all.
unfoldable pub csv_score : Score → List ℕ
csv_score score = codes "," ++ decimal score.passed ++ codes "," ++ decimal score.failed
    ++ codes "," ++ decimal score.earned ++ codes "," ++ decimal score.worth ++ codes "\n"

-- The line of a suite: the source, the file of rows, and what its tests have come to.
abbrev pub csv_line : List ℕ → List ℕ → Score → List ℕ
csv_line source rows score = csv_field source ++ byte "," ∷ (csv_field rows ++ csv_score score)
