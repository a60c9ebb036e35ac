-- What a source denotes and its fault, computed: one pass lays the lines out, a second one puts
-- their bytes. That it is what the definitions mean is a law of this crate.
use Rattle.std.specs.Prelude.{◌≡◌, ℕ, ◌+◌, nat_lt, if◌then◌else◌, List, [], ◌∷◌, length, Option, Result, Ok, Err}
use Rattle.model.specs.State.{Map}
use Rattle.model.specs.Image.{empty_image, with_bytes}
use Rattle.model.specs.Value.{Numbers}
use Rattle.model.specs.Layout.{Context, PlacedLine, unless, layout_of, IsLaidOut}
use Rattle.model.specs.declared.source_fault.AsmFault.{AsmFault}
use Rattle.model.specs.declared.source_fault.AsmFaultKind.{AsmFaultKind}
use Rattle.model.specs.declared.source_fault.AsmFaultKind.TheVariants.{TooLarge}
use Rattle.model.specs.Names.{number_in}
use Rattle.model.specs.Bytes.{line_bytes, value_fault}
use Rattle.model.specs.Source.{most_bytes, first_context, read_lines, Denotes, HasFault}

abbrev pub on_line : {A : Type 0} → ℕ → Result A AsmFaultKind → Result A AsmFault
on_line number (Ok a) = Ok a
on_line number (Err kind) = Err (record { line = number; kind = kind })

infixl 10 ◌>>=◌
abbrev pub ◌>>=◌ : {A B : Type 0} → Result A AsmFault → (A → Result B AsmFault) → Result B AsmFault
(Ok a) >>= f = f a
(Err fault) >>= f = Err fault

-- The lines from a number on, laid out after lines that fix so much: their places, and what is
-- fixed in the end.
abbrev pub layout_from : ℕ → Context → List (List ℕ) → Result (List PlacedLine × Context) AsmFault
layout_from number before [] = Ok ([], before)
layout_from number before (line ∷ lines) =
    on_line number (layout_of before line) >>= λ p. layout_from (number + 1) p.1 lines
    >>= λ rest. Ok (p.0 ∷ rest.0, rest.1)

unfoldable pub image_with_line : Map → Numbers → List (Option ℕ) → PlacedLine
    → Result (List (Option ℕ)) AsmFaultKind
image_with_line bus_map numbers image p = unless (value_fault bus_map numbers image p)
    (Ok (with_bytes image p.address (line_bytes numbers p)))

-- The image after lines in their places.
abbrev pub image_from : Map → Numbers → ℕ → List (Option ℕ) → List PlacedLine
    → Result (List (Option ℕ)) AsmFault
image_from bus_map numbers number image [] = Ok image
image_from bus_map numbers number image (p ∷ ps) =
    on_line number (image_with_line bus_map numbers image p)
    >>= λ i. image_from bus_map numbers (number + 1) i ps

pub record Judgement : Type 0 where
  pub placed : List PlacedLine
  pub all : Context
  pub image : List (Option ℕ)

abbrev pub too_large : AsmFault
too_large = record { line = 0; kind = TooLarge }

unfoldable pub judgement_of_lines : Map → List (List ℕ) → Result Judgement AsmFault
judgement_of_lines bus_map lines =
    layout_from 1 (first_context bus_map.profile) lines
    >>= λ l. image_from bus_map (number_in l.1.names) 1 empty_image l.0
    >>= λ image. Ok (record { placed = l.0; all = l.1; image = image })

unfoldable pub judgement : Map → List ℕ → Result Judgement AsmFault
judgement bus_map source = if nat_lt most_bytes (length source) then Err too_large
    else judgement_of_lines bus_map (read_lines bus_map.profile source)

-- ---- that this is what a source denotes, or its fault

-- What a result says of a source: it denotes the image, its lines are in these places and its names
-- have these numbers; or it has the fault.
abbrev pub Says : Map → List ℕ → Result Judgement AsmFault → Type 0
Says bus_map source (Ok j) = (Denotes bus_map source j.image)
    × IsLaidOut (first_context bus_map.profile) (read_lines bus_map.profile source) j.placed j.all
Says bus_map source (Err fault) = HasFault bus_map source fault

abbrev pub JudgedIsMeant : Type 0
JudgedIsMeant = (bus_map : Map) (source : List ℕ) → Says bus_map source (judgement bus_map source)

abbrev pub judgement_as : List PlacedLine → Context → List (Option ℕ) → Judgement
judgement_as placed all image = record { placed = placed; all = all; image = image }

abbrev pub DenotedIsJudged : Type 0
DenotedIsJudged
    = (bus_map : Map) (source : List ℕ) (image : List (Option ℕ)) (d : Denotes bus_map source image)
    → judgement bus_map source ≡ Ok (judgement_as d.placed d.all image)

abbrev pub FaultIsJudged : Type 0
FaultIsJudged = (bus_map : Map) (source : List ℕ) (fault : AsmFault) → HasFault bus_map source fault
    → judgement bus_map source ≡ Err fault
