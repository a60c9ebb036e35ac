-- Which image and assembly a file is loaded with, and why it is not loaded. No clause can say
-- whether memory is there, nor what is in a file. Source: mos65.
use Rattle.std.specs.Prelude.{◌≡◌, ◌+◌, ◌⊎◌, ⊤, ℕ, Bool, true, false, List, Option, None, Some}
use Rattle.arguments.specs.Shown.{shown_name}
use Rattle.assembler.specs.Assembly.{AssemblyView, IsAssembled, with_others}
use Rattle.arguments.specs.Asked.{FileAsked, map_of}
use Rattle.arguments.specs.declared.file_options.FileForm.{FileForm}
use Rattle.arguments.specs.declared.file_options.FileForm.TheVariants.{Source}
use Rattle.arguments.specs.declared.load_fault.LoadFault.{LoadFault}
use Rattle.arguments.specs.declared.load_fault.LoadFault.TheVariants.{AtPort, Faults, LooksLikeCapture, LooksLikeHex, LooksLikeRaw, LooksLikeSRecords, LooksLikeTape, NoImage, Refused}
use Rattle.arguments.specs.declared.refusal.Refusal.{Refusal}
use Rattle.arguments.specs.declared.refusal.Refusal.TheVariants as refusal
use Rattle.fault_notes.specs.Blocks.{IsToldText}
use Rattle.fault_notes.specs.Given.{told_faults_of}
use Rattle.image_files.specs.Files.{EndsImage, IsOfFile}
use Rattle.image_files.specs.Fill.{IsSpared, fill_at}
use Rattle.image_files.specs.FreeBase.{IsFreeBase}
use Rattle.image_files.specs.Looks.{EndsLooks, IsCaptured, looks_raw}
use Rattle.image_files.specs.Options.{said_of}
use Rattle.image_files.specs.Told.{IsUnloaded}
use Rattle.image_files.specs.declared.refusal.ImageRefusal.{ImageRefusal}
use Rattle.image_reader.specs.declared.form.Form.{Form}
use Rattle.model.specs.Names.{Definitions}
use Rattle.model.specs.Source.{HasFault}
use Rattle.model.specs.State.{Map, has_port_byte, is_map}
use Rattle.model.specs.declared.bus_fault.BusFault.TheVariants.{BadMap}
use Rattle.model.specs.declared.instruction.Profile.{Profile}
use Rattle.model.specs.declared.source_fault.AsmFault.{AsmFault}
use Rattle.names_files.specs.NamesFile.{names_file}

-- A port and a ROM that make no map are rejected for that.
abbrev pub IsBadMap : Map → Refusal → Type 0
IsBadMap bus_map fault = (is_map bus_map.rom bus_map.port ≡ false) × (fault ≡ refusal.Map BadMap)

-- Why a source is not read: memory ran out, or the file cannot be read.
abbrev pub EndsReading : Refusal → Type 0
EndsReading refusal.OutOfMemory = ⊤
EndsReading (refusal.Read why) = ⊤
EndsReading fault = ⊥

-- Why a source is not assembled: it has this fault, memory ran out, or the file cannot be read.
abbrev pub EndsSource : Map → Refusal → Type 0
EndsSource bus_map (refusal.Source fault) = (source : List ℕ) × HasFault bus_map source fault
EndsSource bus_map refusal.OutOfMemory = ⊤
EndsSource bus_map (refusal.Read why) = ⊤
EndsSource bus_map fault = ⊥

-- An image has a byte at the port, whose first and last address are these, and `free` is the base
-- that would be free. It is no fill that is left out.
abbrev pub MeetsPort : Option Form → Bool → Map → ℕ → ℕ → Option ℕ → Type 0
MeetsPort said omits bus_map first last free
    = (first ≡ bus_map.port) × (last ≡ bus_map.port + 3)
    × ((image : List (Option ℕ)) × IsOfFile said image
    × (has_port_byte bus_map image ≡ true) × (fill_at omits bus_map image ≡ None)
    × IsFreeBase bus_map.rom image free)

-- What some file of names gives: its source, and the names that cannot stand in one.
abbrev pub AreOfFile : Profile → AssemblyView → Definitions → Type 0
AreOfFile profile assembly others = (file : List ℕ)
    × (assembly.source ≡ (names_file profile file).source)
    × (others ≡ (names_file profile file).others)

-- The names of an image: those that the source of some file of names gives, and then those of the
-- file that cannot stand in a source.
abbrev pub AreImageNames : Map → AssemblyView → Type 0
AreImageNames bus_map names = (given : AssemblyView) × (others : Definitions)
    × IsAssembled bus_map given × AreOfFile bus_map.profile given others
    × (names ≡ with_others others given)

-- Why a file of names is not assembled.
abbrev pub EndsNames : FileAsked → Refusal → Type 0
EndsNames asked fault = IsBadMap (map_of asked) fault ⊎ EndsSource (map_of asked) fault

-- A source has a fault, and a text tells of all its faults under the name of its file, as it is shown.
abbrev pub TellsFaults : Map → List ℕ → AsmFault → List ℕ → Type 0
TellsFaults bus_map file fault text = (source : List ℕ) × HasFault bus_map source fault
    × IsToldText (shown_name file) source bus_map.profile (told_faults_of bus_map source) text

-- Why the source of a file is not assembled on a map: it has a fault, and all its faults are told;
-- or it is not read.
abbrev pub EndsSourceFile : Map → List ℕ → LoadFault → Type 0
EndsSourceFile bus_map file (Faults fault text) = TellsFaults bus_map file fault text.items
EndsSourceFile bus_map file (Refused fault) = EndsReading fault
EndsSourceFile bus_map file fault = ⊥

-- Why a file is not loaded as a source: it may begin with a record of an image, or as a raw image, or
-- be a capture of a terminal.
abbrev pub EndsAsSource : Map → List ℕ → LoadFault → Type 0
EndsAsSource bus_map file LooksLikeTape = (source : List ℕ) × EndsLooks source LooksLikeTape
EndsAsSource bus_map file LooksLikeHex = (source : List ℕ) × EndsLooks source LooksLikeHex
EndsAsSource bus_map file LooksLikeSRecords
    = (source : List ℕ) × EndsLooks source LooksLikeSRecords
EndsAsSource bus_map file LooksLikeRaw = (bytes : List ℕ) × (looks_raw bytes ≡ true)
EndsAsSource bus_map file LooksLikeCapture = (bytes : List ℕ) × IsCaptured bytes
EndsAsSource bus_map file fault = EndsSourceFile bus_map file fault

-- Why a file is no image, as why it is not loaded.
abbrev pub EndsImageFile : Option Form → LoadFault → Type 0
EndsImageFile said fault = (why : ImageRefusal) × EndsImage said why × IsUnloaded why fault

-- Why a file is not loaded as an image: it may have bytes at the port.
abbrev pub EndsAsImage : Option Form → Bool → Map → LoadFault → Type 0
EndsAsImage said omits bus_map (AtPort first last free)
    = MeetsPort said omits bus_map first last free
EndsAsImage said omits bus_map fault = EndsImageFile said fault

-- Why a file is not loaded on a map.
abbrev pub EndsFileOf : FileForm → Bool → Map → List ℕ → LoadFault → Type 0
EndsFileOf Source omits bus_map file fault = EndsAsSource bus_map file fault
EndsFileOf form omits bus_map file fault = EndsAsImage (said_of form) omits bus_map fault

-- The same where no fill is left out.
abbrev pub EndsFile : FileForm → Map → List ℕ → LoadFault → Type 0
EndsFile form bus_map file fault = EndsFileOf form false bus_map file fault

abbrev pub EndsOnMap : Map → LoadFault → Type 0
EndsOnMap bus_map (Refused fault) = IsBadMap bus_map fault
EndsOnMap bus_map fault = ⊥

-- Why a file is not loaded.
abbrev pub EndsLoad : FileAsked → LoadFault → Type 0
EndsLoad asked fault = EndsOnMap (map_of asked) fault
    ⊎ EndsFileOf asked.form asked.omits_fill (map_of asked) asked.file fault

-- An image is that of some file, without the fill at the port whose base is given.
abbrev pub IsSparedFile : Option Form → Bool → Map → Option ℕ → List (Option ℕ) → Type 0
IsSparedFile said omits bus_map fill image = (whole : List (Option ℕ)) × IsOfFile said whole
    × IsSpared omits bus_map whole fill image

-- An image is that of some source's assembly; or it is that of some file, without fill at the port
-- where that is left out, and has no assembly.
abbrev pub IsImageOf : FileForm → Bool → Map → Option ℕ → List (Option ℕ) → Option AssemblyView
    → Type 0
IsImageOf Source omits bus_map fill image None = ⊥
IsImageOf Source omits bus_map fill image (Some a)
    = IsAssembled bus_map a × (image ≡ a.image) × (fill ≡ None)
IsImageOf form omits bus_map fill image None
    = IsSparedFile (said_of form) omits bus_map fill image
IsImageOf form omits bus_map fill image (Some a) = ⊥

-- What is loaded: the port and the ROM make a map, and the image is one that a file can have, with
-- the assembly of a source. `fill` is the base of the port whose fill is left out, if some is.
abbrev pub IsLoaded : FileAsked → Option ℕ → List (Option ℕ) → Option AssemblyView → Type 0
IsLoaded asked fill image assembly = (is_map asked.rom asked.port ≡ true)
    × IsImageOf asked.form asked.omits_fill (map_of asked) fill image assembly
