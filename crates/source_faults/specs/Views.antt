-- The crate's values, seen as the definitions see them.
use Rattle.std.specs.Prelude.{◌≡◌, ℕ, ◌+◌, ⊤, Bool, false, List, [], ◌∷◌, map, Some, None, Option, Result, Ok, Err}
use Rattle.std.specs.declared.alloc.AllocError.{AllocError}
use Rattle.model.specs.declared.instruction.Profile.{Profile}
use Rattle.model.specs.declared.source_fault.AsmFaultKind.{AsmFaultKind}
use Rattle.model.specs.AllFaults as all
use Rattle.model.specs.AllFaults.{fixed_after, found_line}
use Rattle.model.specs.Layout.{Context, layout_of, no_bytes}
use Rattle.model.specs.SourceLine.{Line, labelled, definition, read_line}
use Rattle.model.specs.Names.{Definitions}
use Rattle.model.specs.Source.{is_end, is_finish}
use Rattle.line_parts.specs.KeptLines.{placed_line_of}
use Rattle.source_faults.specs.declared.found.Found.{Found}
use Rattle.source_faults.specs.declared.found.Found.TheVariants.{Refused, Plain, Bytes}
use Rattle.source_faults.specs.declared.judging.Judged.{Judged}
use Rattle.source_faults.specs.declared.judging.Made.{Made}
use Rattle.source_faults.specs.declared.laying.Laid.{Laid}
use Rattle.source_faults.specs.declared.mending.Mending.{Mending}
use Rattle.source_faults.specs.declared.mending.Mending.TheVariants as mendings
use Rattle.source_faults.specs.declared.told.Part.{Part}
use Rattle.source_faults.specs.declared.told.Part.TheVariants as parts

abbrev pub mending_of : Mending → all.Mending
mending_of mendings.Smallest = all.smallest
mending_of mendings.Largest = all.largest

abbrev pub refused_at : ℕ → AsmFaultKind → all.Found
refused_at address kind = record {
  kind = Some kind;
  place = record { address = address; content = no_bytes };
  begins = false;
}

abbrev pub found_view : Found → all.Found
found_view (Refused address kind) = refused_at address kind
found_view (Plain address begins) = record {
  kind = None;
  place = record { address = address; content = no_bytes };
  begins = begins;
}
found_view (Bytes k) = record { kind = None; place = placed_line_of k; begins = false }

-- A line that denotes bytes has this number.
abbrev pub HasNumber : ℕ → Found → Type 0
HasNumber number (Refused address kind) = ⊤
HasNumber number (Plain address begins) = ⊤
HasNumber number (Bytes k) = k.number ≡ number

-- The lines are numbered from this number on.
abbrev pub AreNumbered : ℕ → List Found → Type 0
AreNumbered number [] = ⊤
AreNumbered number (first ∷ found) = HasNumber number first × AreNumbered (number + 1) found

abbrev pub ends_line : Line → Bool
ends_line (labelled label s) = is_finish s
ends_line (definition name e) = false

abbrev pub before_line : Profile → ℕ → Definitions → Context
before_line profile address names = record { profile = profile; address = address; names = names }

-- A line is laid out or mended, which leaves these names.
pub record LaysLine (m : all.Mending) (profile : Profile) (address : ℕ) (names : Definitions)
    (text : List ℕ) (laid : Laid) (left : Definitions) : Type 0 where
  pub found : found_view laid.found ≡ found_line (before_line profile address names) text
      (layout_of (before_line profile address names) text)
  pub fixed : fixed_after m (before_line profile address names) text
      (layout_of (before_line profile address names) text) ≡ before_line profile laid.next left
  pub end : laid.ended ≡ is_end (read_line profile text)

abbrev pub Lays : all.Mending → Profile → ℕ → Definitions → List ℕ → Result Laid AllocError
    → Definitions → Type 0
Lays m profile address names text (Ok laid) left = LaysLine m profile address names text laid left
Lays m profile address names text (Err e) left = ⊤

abbrev pub found_all : List Found → List all.Found
found_all found = map found_view found

abbrev pub made_of : List (Option ℕ) → Bool → all.Made
made_of image moved = record { image = image; moved = moved }

abbrev pub made_view : Made → all.Made
made_view made = record { image = made.image; moved = made.moved }

abbrev pub judged_view : Judged → all.Judged
judged_view j = record { address = j.address; layout = j.layout; value = j.value }

abbrev pub judged_views : List Judged → List all.Judged
judged_views js = map judged_view js

abbrev pub rule_of : Part → all.Judged → all.Judged → Option AsmFaultKind
rule_of parts.Layout = all.layout_told
rule_of parts.Values = all.value_told
