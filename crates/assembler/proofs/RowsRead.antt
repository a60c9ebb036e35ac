-- Of a source's lines only those that are read have rows.
use Rattle.std.proofs.Common.{◌≡◌, ℕ, List, [], ◌∷◌, ◌++◌, Option, refl, ap}
use Rattle.std.specs.Prelude.{map, if◌then◌else◌, Bool, true, false}
use Rattle.model.specs.Layout.{Context, PlacedLine, IsLaidOut, extents_of, size_of}
use Rattle.model.specs.declared.instruction.Profile.{Profile}
use Rattle.model.specs.SourceLine.{read_line}
use Rattle.model.specs.Source.{is_end, up_to_end}
use Rattle.model.specs.Listing.{bytes_at, line_rows, lines_rows, address_and_bytes}

abbrev Cells : Type 0
Cells = List (Option ℕ)

abbrev pub rows_in : Cells → List (List ℕ) → List PlacedLine → List ℕ
rows_in image lines placed = lines_rows lines (map (address_and_bytes image) (extents_of placed))

-- after `.END` no line has a place
nothing_after : (image : Cells) (lines : List (List ℕ)) (next : Context) (ps : List PlacedLine) (all : Context) → IsLaidOut next [] ps all
    → rows_in image lines ps ≡ rows_in image [] ps
nothing_after image [] next ps all laid = refl
nothing_after image (line ∷ lines) next ps all laid = let none : ps ≡ [] = laid.0 in rw none refl

rows_after : (profile : Profile) (image : Cells) (lines : List (List ℕ)) (ended : Bool) (next : Context) (ps : List PlacedLine) (all : Context)
    → (IsLaidOut next (up_to_end profile lines) ps all → rows_in image lines ps ≡ rows_in image (up_to_end profile lines) ps)
    → IsLaidOut next (if ended then [] else up_to_end profile lines) ps all
    → rows_in image lines ps ≡ rows_in image (if ended then [] else up_to_end profile lines) ps
rows_after profile image lines true next ps all later laid = nothing_after image lines next ps all laid
rows_after profile image lines false next ps all later laid = later laid

-- of a source's lines only those that are read have a place
pub rows_of_read : (profile : Profile) (image : Cells) (lines : List (List ℕ)) (before : Context) (placed : List PlacedLine) (all : Context)
    → IsLaidOut before (up_to_end profile lines) placed all
    → rows_in image lines placed ≡ rows_in image (up_to_end profile lines) placed
rows_of_read profile image [] before placed all laid = refl
rows_of_read profile image (line ∷ lines) before [] all laid = refl
rows_of_read profile image (line ∷ lines) before (p ∷ ps) all laid =
    ap (λ (x : List ℕ). line_rows p.address (bytes_at image p.address (size_of p.content)) line ++ x)
    (rows_after profile image lines (is_end (read_line profile line)) laid.0 ps all
    (λ (rest : IsLaidOut laid.0 (up_to_end profile lines) ps all). rows_of_read profile image lines laid.0 ps all rest) laid.2)
