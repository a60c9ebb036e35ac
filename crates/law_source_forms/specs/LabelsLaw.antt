-- The source of an image with labels denotes the image.
use Rattle.std.specs.Prelude.{◌≡◌, ℕ, List, Option, Bool, false}
use Rattle.model.specs.State.{Map, has_port_byte}
use Rattle.model.specs.Image.{IsImage}
use Rattle.model.specs.Source.{Denotes}
use Rattle.source_forms.specs.declared.mark.Mark.{Mark}
use Rattle.source_forms.specs.Labels.{flagged_source, labelled_source}

-- Under each map at whose port the image has no byte, whatever is marked, and whichever addresses
-- are flagged.
abbrev pub FlaggedSourceDenotes : Type 0
FlaggedSourceDenotes = (bus_map : Map) (image : List (Option ℕ)) (marks : List Mark)
    (flags : List Bool) → IsImage image → has_port_byte bus_map image ≡ false
    → Denotes bus_map (flagged_source bus_map.profile image marks flags) image

-- So it is where those are flagged that the image refers to.
abbrev pub LabelledSourceDenotes : Type 0
LabelledSourceDenotes = (bus_map : Map) (image : List (Option ℕ)) (marks : List Mark)
    → IsImage image → has_port_byte bus_map image ≡ false
    → Denotes bus_map (labelled_source bus_map.profile image marks) image
