-- Of an image no more is left out than fill at the port, and that only where words leave it out.
use Rattle.std.proofs.Common.{◌≡◌, ◌⊎◌, ℕ, Bool, true, false, if◌then◌else◌, List, Option, Some, None, inl, inr, refl, subst, sym}
use Rattle.arguments.specs.Asked.{FileAsked, map_of}
use Rattle.arguments.specs.OtherFiles.{Others}
use Rattle.arguments.specs.declared.file_options.FileForm.{FileForm}
use Rattle.arguments.specs.declared.file_options.FileForm.TheVariants.{Prg, Raw, Records, Source}
use Rattle.assembler.specs.Assembly.{AssemblyView}
use Rattle.image_files.specs.Fill.{fill_at, is_filled}
use Rattle.image_files.specs.Options.{said_of}
use Rattle.image_reader.specs.declared.form.Form.{Form}
use Rattle.loading.specs.Loads.{IsImageOf, IsLoaded, IsSparedFile}
use Rattle.loading.specs.Machine.{IsMachine, IsMachineOf}
use Rattle.loading.specs.Named.{IsNamed}
use Rattle.loading.specs.Warned.{omitted_at}
use Rattle.model.specs.State.{Map}

abbrev Cells : Type 0
Cells = List (Option ℕ)

abbrev MayOmit : Bool → Map → Option ℕ → Type 0
MayOmit omits bus_map fill = (fill ≡ None) ⊎ (fill ≡ (if omits then Some bus_map.port else None))

at_most : (holds : Bool) (base : Option ℕ) → ((if holds then base else None) ≡ None) ⊎ ((if holds then base else None) ≡ base)
at_most true base = inr refl
at_most false base = inl refl

at_port : (omits : Bool) (bus_map : Map) (whole : Cells) → MayOmit omits bus_map (fill_at omits bus_map whole)
at_port true bus_map whole = at_most (is_filled bus_map whole) (Some bus_map.port)
at_port false bus_map whole = inl refl

spared : (omits : Bool) (bus_map : Map) (whole : Cells) (fill : Option ℕ) → fill ≡ fill_at omits bus_map whole → MayOmit omits bus_map fill
spared omits bus_map whole fill is = subst (MayOmit omits bus_map) (sym is) (at_port omits bus_map whole)

of_file : (said : Option Form) (omits : Bool) (bus_map : Map) (fill : Option ℕ) (image : Cells) → IsSparedFile said omits bus_map fill image
    → MayOmit omits bus_map fill
of_file said omits bus_map fill image file = spared omits bus_map file.0 fill file.2.0

of_image : (form : FileForm) (omits : Bool) (bus_map : Map) (fill : Option ℕ) (image : Cells) (assembly : Option AssemblyView)
    → IsImageOf form omits bus_map fill image assembly → MayOmit omits bus_map fill
of_image Source omits bus_map fill image None is = absurd is
of_image Source omits bus_map fill image (Some a) is = inl is.2
of_image Records omits bus_map fill image None is = of_file (said_of Records) omits bus_map fill image is
of_image Records omits bus_map fill image (Some a) is = absurd is
of_image (Raw address) omits bus_map fill image None is = of_file (said_of (Raw address)) omits bus_map fill image is
of_image (Raw address) omits bus_map fill image (Some a) is = absurd is
of_image Prg omits bus_map fill image None is = of_file (said_of Prg) omits bus_map fill image is
of_image Prg omits bus_map fill image (Some a) is = absurd is

of_loaded : (asked : FileAsked) (fill : Option ℕ) (image : Cells) (assembly : Option AssemblyView) → IsLoaded asked fill image assembly
    → MayOmit asked.omits_fill (map_of asked) fill
of_loaded asked fill image assembly loaded = of_image asked.form asked.omits_fill (map_of asked) fill image assembly loaded.1

of_named : (asked : FileAsked) (symbols : Option (List ℕ)) (fill : Option ℕ) (image : Cells) (assembly : Option AssemblyView)
    → IsNamed asked symbols fill image assembly → MayOmit asked.omits_fill (map_of asked) fill
of_named asked None fill image assembly named = of_loaded asked fill image assembly named
of_named asked (Some path) fill image None named = absurd named
of_named asked (Some path) fill image (Some a) named = of_loaded asked fill image None named.0

by_second : (second : Option (List ℕ)) (asked : FileAsked) (others : Others) (symbols : Option (List ℕ)) (fill : Option ℕ) (image : Cells)
    (assembly : Option AssemblyView) → IsMachineOf second asked others symbols fill image assembly → MayOmit asked.omits_fill (map_of asked) fill
by_second None asked others symbols fill image assembly machine = of_named asked symbols fill image assembly machine
by_second (Some second) asked others symbols fill image assembly machine =
    spared asked.omits_fill (map_of asked) machine.1.0 fill machine.1.2.0

pub omitted_or_none : (asked : FileAsked) (others : Others) (symbols : Option (List ℕ)) (fill : Option ℕ) (image : Cells) (assembly : Option AssemblyView)
    → IsMachine asked others symbols fill image assembly → (fill ≡ None) ⊎ (fill ≡ omitted_at asked)
omitted_or_none asked others symbols fill image assembly machine = by_second others.second asked others symbols fill image assembly machine
