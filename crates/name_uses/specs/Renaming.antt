-- A source with a name changed. Source: mos65.
use Rattle.std.specs.Prelude.{◌≡◌, ⊤, ℕ, ◌+◌, ◌-◌, ◌==◌, ◌&&◌, nat_lt, Bool, false, if◌then◌else◌, List, [], ◌∷◌, ◌++◌, length, Option, Some}
use Rattle.model.specs.Source.{Denotes}
use Rattle.model.specs.State.{Map}
use Rattle.model.specs.declared.instruction.Profile.{Profile}
use Rattle.name_uses.specs.Faulty.{faulty_line}
use Rattle.name_uses.specs.Picked.{picked}
use Rattle.name_uses.specs.declared.picks.Part.TheVariants.{All}
use Rattle.name_uses.specs.Uses.{Use, is_name, uses_of}
use Rattle.name_uses.specs.declared.fault.RenameFault.{RenameFault}
use Rattle.name_uses.specs.declared.fault.RenameFault.TheVariants.{NoName, Taken, Faulty, Changed, OutOfMemory}

-- Where a name stands in a source.
unfoldable pub uses_named : Profile → List ℕ → List ℕ → List Use
uses_named profile source name = picked All name (uses_of profile source)

-- ---- the text

-- The place behind a byte: a line, counted from 1, and a column, counted from 0.
abbrev pub line_after : ℕ → ℕ → ℕ
line_after b line = if b == 10 then line + 1 else line

abbrev pub column_after : ℕ → ℕ → ℕ
column_after b column = if b == 10 then 0 else column + 1

-- Whether a use begins at a place.
abbrev pub is_at : ℕ → ℕ → Use → Bool
is_at line column u = (u.line == line) && (u.start == column)

-- What stands in place of a byte: a word where the first of some uses begins.
abbrev pub piece : List ℕ → ℕ → ℕ → List Use → ℕ → List ℕ
piece word line column [] b = b ∷ []
piece word line column (u ∷ us) b = if is_at line column u then word else b ∷ []

-- How many bytes behind it are left out: those of the use.
abbrev pub left_of : ℕ → ℕ → List Use → ℕ
left_of line column [] = 0
left_of line column (u ∷ us) = if is_at line column u then length u.text - 1 else 0

-- The uses behind it.
abbrev pub rest_of : ℕ → ℕ → List Use → List Use
rest_of line column [] = []
rest_of line column (u ∷ us) = if is_at line column u then us else u ∷ us

-- The same where so many bytes still belong to the use before: they are left out.
abbrev pub piece_at : List ℕ → ℕ → ℕ → ℕ → List Use → ℕ → List ℕ
piece_at word line column left uses b
    = if nat_lt 0 left then [] else piece word line column uses b

abbrev pub left_at : ℕ → ℕ → ℕ → List Use → ℕ
left_at line column left uses = if nat_lt 0 left then left - 1 else left_of line column uses

abbrev pub rest_at : ℕ → ℕ → ℕ → List Use → List Use
rest_at line column left uses = if nat_lt 0 left then uses else rest_of line column uses

-- A text from a place on, of which so many bytes are left out, with a word in place of uses.
unfoldable pub replaced : List ℕ → List Use → ℕ → ℕ → ℕ → List ℕ → List ℕ
replaced word uses line column left [] = []
replaced word uses line column left (b ∷ text) = piece_at word line column left uses b
    ++ replaced word (rest_at line column left uses) (line_after b line) (column_after b column)
    (left_at line column left uses) text

-- The source with a new name where the old one stands.
unfoldable pub renamed : Profile → List ℕ → List ℕ → List ℕ → List ℕ
renamed profile source old new = replaced new (uses_named profile source old) 1 0 0 source

-- ---- refusals

-- A source denotes an image, and a text does not denote it.
abbrev pub IsChanged : Map → List ℕ → List ℕ → Type 0
IsChanged bus_map source text = (image : List (Option ℕ)) × Denotes bus_map source image
    × (Denotes bus_map text image → ⊥)

-- Why a name is not changed.
abbrev pub IsRefused : Map → List ℕ → List ℕ → List ℕ → RenameFault → Type 0
IsRefused bus_map source old new NoName = is_name bus_map.profile new ≡ false
IsRefused bus_map source old new Taken = uses_named bus_map.profile source new ≡ [] → ⊥
IsRefused bus_map source old new (Faulty line)
    = faulty_line bus_map.profile source old new ≡ Some line
IsRefused bus_map source old new Changed
    = IsChanged bus_map source (renamed bus_map.profile source old new)
IsRefused bus_map source old new OutOfMemory = ⊤
