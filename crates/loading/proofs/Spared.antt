-- What is loaded of a file's image, or of the image of several files.
use Rattle.std.proofs.Common.{◌≡◌, ◌∙◌, ℕ, Bool, List, Option, Some, None, refl, sym, subst}
use Rattle.arguments.specs.Asked.{FileAsked, map_of}
use Rattle.arguments.specs.OtherFiles.{Others}
use Rattle.image_files.specs.Files.{IsOfFile}
use Rattle.image_files.specs.Fill.{IsKept, IsSpared, IsWithoutPort, fill_at}
use Rattle.image_reader.specs.declared.form.Form.{Form}
use Rattle.loading.specs.Loads.{IsSparedFile}
use Rattle.loading.specs.Machine.{IsJoined, IsSparedJoin}
use Rattle.model.specs.State.{Map}

abbrev Cells : Type 0
Cells = List (Option ℕ)

all_kept : (omits : Bool) (bus_map : Map) (image : Cells) → None ≡ fill_at omits bus_map image → IsSpared omits bus_map image None image
all_kept omits bus_map image none = (none, refl)

fill_left : (omits : Bool) (bus_map : Map) (whole image : Cells) (base : ℕ) (fill : Option ℕ) → Some base ≡ fill_at omits bus_map whole
    → fill ≡ Some base → IsWithoutPort bus_map whole image
    → IsSpared omits bus_map whole fill image
fill_left omits bus_map whole image base fill there is without = (is ∙ there, subst (λ (f : Option ℕ). IsKept bus_map whole f image) (sym is) without)

-- ---- one file

pub file_kept : (said : Option Form) (omits : Bool) (bus_map : Map) (image : Cells) → IsOfFile said image → None ≡ fill_at omits bus_map image
    → IsSparedFile said omits bus_map None image
file_kept said omits bus_map image of_file none = (image, of_file, all_kept omits bus_map image none)

pub file_left : (said : Option Form) (omits : Bool) (bus_map : Map) (whole image : Cells) (base : ℕ) (fill : Option ℕ) → IsOfFile said whole
    → Some base ≡ fill_at omits bus_map whole
    → fill ≡ Some base → IsWithoutPort bus_map whole image → IsSparedFile said omits bus_map fill image
file_left said omits bus_map whole image base fill of_file there is without = (whole, of_file, fill_left omits bus_map whole image base fill there is without)

-- ---- several files

pub join_kept : (asked : FileAsked) (others : Others) (bus_map : Map) (image : Cells) → bus_map ≡ map_of asked → IsJoined asked others image
    → None ≡ fill_at asked.omits_fill bus_map image
    → IsSparedJoin asked others None image
join_kept asked others bus_map image same joined none =
    (image, joined, subst (λ (m : Map). IsSpared asked.omits_fill m image None image) same (all_kept asked.omits_fill bus_map image none))

pub join_left : (asked : FileAsked) (others : Others) (bus_map : Map) (whole image : Cells) (base : ℕ) (fill : Option ℕ) → bus_map ≡ map_of asked
    → IsJoined asked others whole
    → Some base ≡ fill_at asked.omits_fill bus_map whole → fill ≡ Some base → IsWithoutPort bus_map whole image → IsSparedJoin asked others fill image
join_left asked others bus_map whole image base fill same joined there is without = (
  whole,
  joined,
  subst (λ (m : Map). IsSpared asked.omits_fill m whole fill image) same
      (fill_left asked.omits_fill bus_map whole image base fill there is without),
)
