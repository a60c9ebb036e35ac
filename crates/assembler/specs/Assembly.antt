-- What an assembly shows, and the error that is not a fault of the source.
use Rattle.std.specs.Prelude.{◌≡◌, ℕ, ℤ, Bool, false, is_some, if◌then◌else◌, List, [], ◌∷◌, ◌++◌, length, take, map, Option, Result, Ok, Err}
pub use Rattle.line_parts.specs.LineFaults.{AnswersSource, out_of_memory}
use Rattle.model.specs.Names.{Definitions, number_in}
use Rattle.model.specs.Layout.{extents_of}
use Rattle.model.specs.TextLines.{lines_of}
use Rattle.model.specs.Listing.{listing_text, address_and_bytes}
use Rattle.assembler.specs.Lines.{LineView, is_instruction_in, labels_in, lines_with, placed_lines}
use Rattle.law_sources.specs.Judging.{Judgement, judgement, ◌>>=◌}
use Rattle.model.specs.Source.{Denotes, read_lines}
use Rattle.model.specs.State.{Map}
use Rattle.model.specs.declared.instruction.Profile.{Profile}
use Rattle.model.specs.declared.source_fault.AsmFault.{AsmFault}

-- What clauses see of an assembly: the byte at each address where the source denotes one; the
-- source; of each line that is read its address and byte count, and whether it is an instruction,
-- in the order of the lines; and the names with their numbers, and whether each is a label, in order
-- of definition.
pub record AssemblyView : Type 0 where
  pub image : List (Option ℕ)
  pub source : List ℕ
  pub places : List (ℕ × ℕ)
  pub instructions : List Bool
  pub names : Definitions
  pub labels : List Bool

-- The lines that are read: the texts of the source, as many as have a place.
abbrev pub source_lines : AssemblyView → List LineView
source_lines a = lines_with 1 (lines_of a.source) a.places a.instructions

-- An assembly is that of its source: the source denotes the image, the names, the places and the
-- lines are those of its layout, and the labels are the names that stand before `:`.
pub record IsAssembled (bus_map : Map) (a : AssemblyView) : Type 0 where
  pub denotes : Denotes bus_map a.source a.image
  pub names : a.names ≡ denotes.all.names
  pub places : a.places ≡ extents_of denotes.placed
  pub lines : source_lines a ≡ placed_lines bus_map.profile a.source denotes.placed
  pub labels : a.labels ≡ labels_in bus_map.profile (read_lines bus_map.profile a.source)

-- The first lines of the source, as many as have a place, have instructions and labels where a
-- profile reads them.
pub record AreRead (profile : Profile) (a : AssemblyView) : Type 0 where
  pub paired : length a.instructions ≡ length a.places
  pub instructions : a.instructions ≡ map (is_instruction_in profile)
      (take (length a.instructions) (lines_of a.source))
  pub labels : a.labels ≡ labels_in profile (take (length a.instructions) (lines_of a.source))

-- What of it the source decides.
pub record Verdict : Type 0 where
  pub image : List (Option ℕ)
  pub places : List (ℕ × ℕ)
  pub names : Definitions

abbrev pub verdict_of : Judgement → Verdict
verdict_of j = record { image = j.image; places = extents_of j.placed; names = j.all.names }

abbrev pub verdict : Map → List ℕ → Result Verdict AsmFault
verdict bus_map source = judgement bus_map source >>= λ j. Ok (verdict_of j)

abbrev pub verdict_view : AssemblyView → Verdict
verdict_view a = record { image = a.image; places = a.places; names = a.names }

-- The result is this image, or memory ran out.
abbrev pub IsImageOrMemory : Result AssemblyView AsmFault → List (Option ℕ) → Type 0
IsImageOrMemory (Ok a) image = a.image ≡ image
IsImageOrMemory (Err fault) image = fault ≡ out_of_memory

-- The listing of what an assembly shows: of its source's lines that have an address, and of its
-- names.
abbrev pub listing_of : AssemblyView → List ℕ
listing_of a = listing_text (lines_of a.source) (map (address_and_bytes a.image) a.places) a.names

-- With a name more, which is no label, unless it is there.
abbrev pub with_other : List ℕ × ℤ → AssemblyView → AssemblyView
with_other d a = if is_some (number_in a.names d.0) then a
    else record a { names = a.names ++ d ∷ []; labels = a.labels ++ false ∷ [] }

-- With more names, one after another.
abbrev pub with_others : Definitions → AssemblyView → AssemblyView
with_others [] a = a
with_others (d ∷ ds) a = with_others ds (with_other d a)
