-- What rows are run on, by what its parts say.
use Rattle.std.proofs.Common.{◌≡◌, ◌∙◌, ℕ, true, false, List, [], ◌∷◌, Option, None, Some, inl, inr, refl, sym, subst}
use Rattle.arguments.specs.Asked.{FileAsked, map_of}
use Rattle.arguments.specs.declared.file_options.FileForm.{FileForm}
use Rattle.arguments.specs.declared.file_options.FileForm.TheVariants as form
use Rattle.arguments.specs.declared.load_fault.LoadFault.{LoadFault}
use Rattle.arguments.specs.declared.load_fault.LoadFault.TheVariants.{Refused}
use Rattle.arguments.specs.declared.refusal.Refusal.{Refusal}
use Rattle.arguments.specs.declared.refusal.Refusal.TheVariants.{OutOfMemory}
use Rattle.assembler.specs.Assembly.{AssemblyView, IsAssembled}
use Rattle.image_files.proofs.Filled.{never_filled}
use Rattle.image_files.specs.Files.{IsOfFile}
use Rattle.image_files.specs.declared.refusal.ImageRefusal.TheVariants as why
use Rattle.image_files.specs.Options.{said_of}
use Rattle.loading.proofs.Ends.{image_loaded}
use Rattle.loading.specs.Loads.{EndsAsImage, EndsAsSource, EndsFile, EndsNames, IsImageOf, IsSparedFile}
use Rattle.loading.specs.Named.{named_image}
use Rattle.loading.specs.declared.named.NamedFault.TheVariants.{OfFile, OfNames}
use Rattle.model.specs.Layout.{Context, IsLaidOut, PlacedLine}
use Rattle.model.specs.Names.{Definitions}
use Rattle.model.specs.Source.{first_context, read_lines}
use Rattle.model.specs.State.{Map, has_port_byte, is_map}
use Rattle.model.specs.TextLines.{lines_from}
use Rattle.t65_suites.specs.Programs.{AreNames, EndsProgram, IsProgram}

-- ---- no names

-- A source without a line defines no name.
pub no_line : (bus_map : Map) (source : List ℕ) (names : Definitions) → source ≡ []
    → ((placed : List PlacedLine) (all : Context) → IsLaidOut (first_context bus_map.profile) (read_lines bus_map.profile source) placed all
    → names ≡ all.names)
    → names ≡ []
unfolding read_lines lines_from
no_line bus_map [] names is laid = laid [] (first_context bus_map.profile) (refl, refl)
no_line bus_map (b ∷ source) names is laid = absurd (no is)
  where
    no : (b ∷ source) ≡ [] → ⊥
    no e = cc

-- ---- a program

pub of_source : (asked : FileAsked) (bus_map : Map) (a : AssemblyView) → bus_map ≡ map_of asked → is_map asked.rom asked.port ≡ true → asked.form ≡ form.Source
    → IsAssembled bus_map a → has_port_byte bus_map a.image ≡ false → IsProgram asked None a
of_source asked bus_map a same on_map is assembled spared = record {
  loaded = Some a;
  named = (
    on_map,
    subst (λ (f : FileForm). IsImageOf f asked.omits_fill (map_of asked) None a.image (Some a)) (sym is)
        (subst (λ (m : Map). IsAssembled m a) same assembled, refl, refl),
  );
  shown = refl;
  spared = subst (λ (m : Map). has_port_byte m a.image ≡ false) same spared;
}

-- An image without a byte at the port is the file's own.
whole_file : (asked : FileAsked) (bus_map : Map) (image : List (Option ℕ)) → bus_map ≡ map_of asked → has_port_byte bus_map image ≡ false
    → IsOfFile (said_of asked.form) image
    → IsSparedFile (said_of asked.form) asked.omits_fill (map_of asked) None image
whole_file asked bus_map image same spared of_file =
    (image, of_file, (sym (never_filled asked.omits_fill (map_of asked) image (subst (λ (m : Map). has_port_byte m image ≡ false) same spared)), refl))

pub of_image : (asked : FileAsked) (symbols : Option (List ℕ)) (bus_map : Map) (image : List (Option ℕ)) (names a : AssemblyView)
    → bus_map ≡ map_of asked → is_map asked.rom asked.port ≡ true
    → (asked.form ≡ form.Source → ⊥) → IsOfFile (said_of asked.form) image → has_port_byte bus_map image ≡ false
    → AreNames (map_of asked) symbols names → a ≡ named_image image names
    → IsProgram asked symbols a
of_image asked None bus_map image names a same on_map apart of_file spared are is =
    subst (IsProgram asked None) (sym is) (record {
      loaded = None;
      named = image_loaded asked None image on_map apart (whole_file asked bus_map image same spared of_file);
      shown = record { names = are; source = refl; places = refl };
      spared = subst (λ (m : Map). has_port_byte m image ≡ false) same spared;
    })
of_image asked (Some path) bus_map image names a same on_map apart of_file spared are is =
    subst (IsProgram asked (Some path)) (sym is) (record {
      loaded = Some (named_image image names);
      named = (image_loaded asked None image on_map apart (whole_file asked bus_map image same spared of_file), (names, are, refl));
      shown = refl;
      spared = subst (λ (m : Map). has_port_byte m image ≡ false) same spared;
    })

-- ---- why there is none

on_map_file : (asked : FileAsked) (fault : LoadFault) → EndsFile asked.form (map_of asked) asked.file fault → (symbols : Option (List ℕ))
    → EndsProgram asked symbols (OfFile fault)
on_map_file asked fault ends None = ends
on_map_file asked fault ends (Some path) = ends

as_image : (f : FileForm) (bus_map : Map) (file : List ℕ) (fault : LoadFault) → (f ≡ form.Source → ⊥) → EndsAsImage (said_of f) false bus_map fault
    → EndsFile f bus_map file fault
as_image form.Source bus_map file fault apart ends = absurd (apart refl)
as_image form.Records bus_map file fault apart ends = ends
as_image (form.Raw address) bus_map file fault apart ends = ends
as_image form.Prg bus_map file fault apart ends = ends

pub image_refused : (asked : FileAsked) (symbols : Option (List ℕ)) (bus_map : Map) (fault : LoadFault) → bus_map ≡ map_of asked
    → (asked.form ≡ form.Source → ⊥)
    → EndsAsImage (said_of asked.form) false bus_map fault → EndsProgram asked symbols (OfFile fault)
image_refused asked symbols bus_map fault same apart ends = on_map_file asked fault
    (as_image asked.form (map_of asked) asked.file fault apart (subst (λ (m : Map). EndsAsImage (said_of asked.form) false m fault) same ends)) symbols

pub source_refused : (asked : FileAsked) (symbols : Option (List ℕ)) (bus_map : Map) (fault : LoadFault) → bus_map ≡ map_of asked → asked.form ≡ form.Source
    → EndsAsSource bus_map asked.file fault → EndsProgram asked symbols (OfFile fault)
source_refused asked symbols bus_map fault same is ends = on_map_file asked fault
    (subst (λ (f : FileForm). EndsFile f (map_of asked) asked.file fault) (sym is) (subst (λ (m : Map). EndsAsSource m asked.file fault) same ends)) symbols

-- Memory may run out for any file.
memory_by : (f : FileForm) (bus_map : Map) (file : List ℕ) → EndsFile f bus_map file (Refused OutOfMemory)
memory_by form.Source bus_map file = tt
memory_by form.Records bus_map file = (why.Refused OutOfMemory, tt, refl)
memory_by (form.Raw address) bus_map file = (why.Refused OutOfMemory, tt, refl)
memory_by form.Prg bus_map file = (why.Refused OutOfMemory, tt, refl)

pub memory_file : (asked : FileAsked) (fault : LoadFault) → fault ≡ Refused OutOfMemory → EndsFile asked.form (map_of asked) asked.file fault
memory_file asked fault is = subst (EndsFile asked.form (map_of asked) asked.file) (sym is) (memory_by asked.form (map_of asked) asked.file)

pub names_refused : (asked : FileAsked) (path : List ℕ) (refusal : Refusal) → is_map asked.rom asked.port ≡ true → EndsNames asked refusal
    → EndsProgram asked (Some path) (OfNames refusal)
names_refused asked path refusal on_map (inl bad) = absurd (no (sym on_map ∙ bad.0))
  where
    no : true ≡ false → ⊥
    no e = cc
names_refused asked path refusal on_map (inr ends) = ends
