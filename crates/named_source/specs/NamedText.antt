-- Which source is written of an image and names. Source: mos65.
use Rattle.std.specs.Prelude.{◌≡◌, ◌⊎◌, ℕ, true, false, List, Option}
use Rattle.model.specs.State.{Map, has_port_byte, is_map}
use Rattle.model.specs.Names.{Definitions}
use Rattle.model.specs.Source.{Denotes}
use Rattle.model.specs.declared.instruction.Profile.{Profile}
use Rattle.source_forms.specs.declared.mark.Mark.{Mark}
use Rattle.source_forms.specs.Labels.{flagged_source, flags_of}
use Rattle.named_source.specs.Names.{with_named}
use Rattle.named_source.specs.Renaming.{renamed}

-- The source with labels where the image refers to itself, and where an address has a name.
unfoldable pub plain_source : Profile → List (Option ℕ) → List Mark → Definitions → List ℕ
plain_source profile image marks names
    = flagged_source profile image marks (with_named names 0 (flags_of profile image marks))

-- The same with the names.
unfoldable pub named_source : Profile → List (Option ℕ) → List Mark → Definitions → List ℕ
named_source profile image marks names
    = renamed names image (plain_source profile image marks names)

-- A text denotes an image under some map of a profile at whose port the image has no byte. It then
-- does under each.
pub record IsSourceOf (profile : Profile) (image : List (Option ℕ)) (text : List ℕ) : Type 0 where
  pub bus_map : Map
  pub valid : is_map bus_map.rom bus_map.port ≡ true
  pub same : bus_map.profile ≡ profile
  pub spared : has_port_byte bus_map image ≡ false
  pub denotes : Denotes bus_map text image

-- The one text of two: the first where it is a source of the image, the second where it is not.
abbrev pub IsFirstOf : Profile → List (Option ℕ) → List ℕ → List ℕ → List ℕ → Type 0
IsFirstOf profile image first second text = (IsSourceOf profile image first × (text ≡ first))
    ⊎ ((IsSourceOf profile image first → ⊥) × (text ≡ second))

-- The source that is written: with names, where that is a source of the image.
abbrev pub IsNamedText : Profile → List (Option ℕ) → List Mark → Definitions → List ℕ → Type 0
IsNamedText profile image marks names text = IsFirstOf profile image
    (named_source profile image marks names) (plain_source profile image marks names) text
