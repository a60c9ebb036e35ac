-- The image that the lines with bytes make.
use Rattle.std.specs.Prelude.{ℕ, List, [], ◌∷◌, Option, Result, Ok}
use Rattle.line_parts.specs.KeptLines.{NumberedLine}
use Rattle.model.specs.State.{Map}
use Rattle.model.specs.Value.{Numbers}
use Rattle.model.specs.declared.source_fault.AsmFault.{AsmFault}
use Rattle.law_sources.specs.Judging.{on_line, image_with_line, ◌>>=◌}

-- The image after the lines that are kept.
abbrev pub image_of_lines : Map → Numbers → List (Option ℕ) → List NumberedLine
    → Result (List (Option ℕ)) AsmFault
image_of_lines bus_map numbers image [] = Ok image
image_of_lines bus_map numbers image (k ∷ ks) =
    on_line k.number (image_with_line bus_map numbers image k.place) >>= λ i. image_of_lines bus_map numbers i ks
