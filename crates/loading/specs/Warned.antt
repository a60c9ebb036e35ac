-- What is told of the warnings of a source that is loaded, of names that were left out, and of fill
-- at the port. Source: mos65.
use Rattle.std.specs.Prelude.{◌≡◌, ◌⊎◌, ℕ, ◌==◌, if◌then◌else◌, List, [], ◌∷◌, ◌++◌, decimal, length, Option, Some, None}
use Rattle.arguments.specs.Asked.{FileAsked}
use Rattle.assembler.specs.Assembly.{AssemblyView}
use Rattle.loading.specs.Told.{Heard, Tells}
use Rattle.loading.specs.declared.warned.TheConstants.{ARE_LEFT_OUT, FILL, LEFT_OUT, MANY_WARNINGS, ONE_WARNING, PROGRAM}
use Rattle.model.specs.Listing.{address_text}
use Rattle.model.specs.State.{Map}
use Rattle.warnings.specs.Warnings.{warnings_of}

-- How many warnings a source has; 0 where memory runs out.
abbrev pub IsCount : Map → List ℕ → ℕ → Type 0
IsCount bus_map source count = (count ≡ length (warnings_of bus_map source)) ⊎ (count ≡ 0)

abbrev pub many_text : ℕ → List ℕ
many_text count = PROGRAM.now ++ decimal count ++ MANY_WARNINGS.now

-- The line that tells of so many warnings, or nothing.
unfoldable pub warned_text : ℕ → List ℕ
warned_text count = if count == 0 then [] else if count == 1 then ONE_WARNING.now
    else many_text count

-- The line that tells how many lines of a file of names gave no name, or nothing.
unfoldable pub lost_text : ℕ → List ℕ
lost_text lost = if lost == 0 then [] else LEFT_OUT.now ++ decimal lost ++ 10 ∷ []

-- The line that tells that an image was loaded without the fill at the port of a base, or nothing.
abbrev pub fill_text : Option ℕ → List ℕ
fill_text None = []
fill_text (Some base) = FILL.now ++ address_text base ++ ARE_LEFT_OUT.now

-- The lines that tell what was left out.
abbrev pub left_text : ℕ → Option ℕ → List ℕ
left_text lost fill = lost_text lost ++ fill_text fill

-- The error stream got how many warnings the source has, if there is a source and it has some; how
-- many lines of a file of names gave no name, if some did; and that fill was left out, if some was.
abbrev pub TellsWarnings : Map → Option AssemblyView → ℕ → Option ℕ → Heard → Type 0
TellsWarnings bus_map None lost fill heard = Tells heard (left_text lost fill)
TellsWarnings bus_map (Some a) lost fill heard = (count : ℕ) × IsCount bus_map a.source count
    × Tells heard (warned_text count ++ left_text lost fill)

-- The base of the port whose fill is left out of an image that has some, where words leave it out.
abbrev pub omitted_at : FileAsked → Option ℕ
omitted_at asked = if asked.omits_fill then Some asked.port else None

-- The error stream got nothing, or how many warnings there are, how many lines gave no name, and
-- that the fill at the port of this base was left out.
abbrev pub OnlyWarned : Option ℕ → Option (List ℕ) → Option (List ℕ) → Type 0
OnlyWarned base held now = (count : ℕ) × (lost : ℕ) × (fill : Option ℕ)
    × ((fill ≡ None) ⊎ (fill ≡ base))
    × Tells (record { held = held; now = now }) (warned_text count ++ left_text lost fill)
