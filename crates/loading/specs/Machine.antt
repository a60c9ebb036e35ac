-- What is loaded where more files of one machine may be named, and why nothing is. Each file has its
-- own form, by its word or its first record. Source: mos65.
use Rattle.std.specs.Prelude.{◌≡◌, ◌+◌, ◌⊎◌, ⊤, ℕ, true, List, [], ◌++◌, Option, None, Some, codes, unwrap_or}
use Rattle.arguments.specs.Asked.{FileAsked, map_of}
use Rattle.arguments.specs.FaultLines.{file_line, load_text}
use Rattle.arguments.specs.FileNames.{form_beside}
use Rattle.arguments.specs.OtherFiles.{Others}
use Rattle.arguments.specs.Statuses.{status_of, status_of_load}
use Rattle.arguments.specs.declared.file_options.FileForm.TheVariants.{Records}
use Rattle.arguments.specs.declared.load_fault.LoadFault.{LoadFault}
use Rattle.arguments.specs.declared.load_fault.LoadFault.TheVariants.{AtPort, NoImage}
use Rattle.assembler.specs.Assembly.{AssemblyView}
use Rattle.image_files.specs.Files.{IsOfFile}
use Rattle.image_files.specs.Fill.{IsSpared, fill_at}
use Rattle.image_files.specs.FreeBase.{IsFreeBase}
use Rattle.image_files.specs.Options.{said_of}
use Rattle.image_files.specs.Union.{IsFirstClash, IsUnion}
use Rattle.image_reader.specs.declared.form.Form.{Form}
use Rattle.loading.specs.Loads.{AreImageNames, EndsImageFile, EndsLoad, EndsNames, EndsOnMap}
use Rattle.loading.specs.Named.{EndsNamed, IsNamed, named_image, named_text, status_of_named}
use Rattle.loading.specs.Told.{Heard, Tells}
use Rattle.loading.specs.declared.machine.MachineFault.{MachineFault}
use Rattle.loading.specs.declared.machine.MachineFault.TheVariants.{Alone, OfFile, OfNames}
use Rattle.loading.specs.declared.machine.TheConstants.{CLASH}
use Rattle.model.specs.State.{has_port_byte, is_map}
use Rattle.model.specs.Text.{hex_address}

-- ---- the images of several files, joined

-- The form of another file than the first: the one that its word tells, or that of its first record.
abbrev pub form_of_other : List ℕ → Option Form
form_of_other word = said_of (form_beside word Records)

-- An image with that of another file, if there is one: they have no two bytes for an address.
abbrev pub IsWith : Option (List ℕ) → List (Option ℕ) → List (Option ℕ) → Type 0
IsWith None image all = all ≡ image
IsWith (Some word) image all = (other : List (Option ℕ)) × IsOfFile (form_of_other word) other
    × IsFirstClash image other None × IsUnion image other all

-- The image of the first file with those of all others.
abbrev pub IsJoined : FileAsked → Others → List (Option ℕ) → Type 0
IsJoined asked others image = (first : List (Option ℕ)) × (two : List (Option ℕ))
    × (three : List (Option ℕ)) × IsOfFile (said_of asked.form) first
    × IsWith others.second first two × IsWith others.third two three
    × IsWith others.fourth three image

-- ---- what is loaded

-- An image has the names of some file of names, if one is named, and no assembly otherwise.
abbrev pub HasNames : FileAsked → Option (List ℕ) → List (Option ℕ) → Option AssemblyView → Type 0
HasNames asked None image assembly = assembly ≡ None
HasNames asked (Some path) image None = ⊥
HasNames asked (Some path) image (Some a)
    = (names : AssemblyView) × AreImageNames (map_of asked) names × (a ≡ named_image image names)

-- The image of all files, without the fill at the port whose base is given.
abbrev pub IsSparedJoin : FileAsked → Others → Option ℕ → List (Option ℕ) → Type 0
IsSparedJoin asked others fill image = (whole : List (Option ℕ)) × IsJoined asked others whole
    × IsSpared asked.omits_fill (map_of asked) whole fill image

-- One file is loaded as it is alone. Several are images, and make one machine. `fill` is the base
-- of the port whose fill is left out of the image, if some is.
abbrev pub IsMachineOf : Option (List ℕ) → FileAsked → Others → Option (List ℕ) → Option ℕ
    → List (Option ℕ) → Option AssemblyView → Type 0
IsMachineOf None asked others symbols fill image assembly
    = IsNamed asked symbols fill image assembly
IsMachineOf (Some second) asked others symbols fill image assembly
    = (is_map asked.rom asked.port ≡ true) × IsSparedJoin asked others fill image
    × HasNames asked symbols image assembly

abbrev pub IsMachine : FileAsked → Others → Option (List ℕ) → Option ℕ → List (Option ℕ)
    → Option AssemblyView → Type 0
IsMachine asked others symbols fill image assembly
    = IsMachineOf others.second asked others symbols fill image assembly

-- ---- why nothing is loaded

-- The image of all files has a byte at the port, which is no fill that is left out.
abbrev pub MeetsJoined : FileAsked → Others → LoadFault → Type 0
MeetsJoined asked others fault = (image : List (Option ℕ)) × (free : Option ℕ)
    × (fault ≡ AtPort asked.port (asked.port + 3) free) × IsJoined asked others image
    × (has_port_byte (map_of asked) image ≡ true)
    × (fill_at asked.omits_fill (map_of asked) image ≡ None) × IsFreeBase asked.rom image free

-- Where the images of two files have two bytes.
abbrev pub clash_place : ℕ → List ℕ
clash_place address = codes "IMAGE address " ++ hex_address address ++ codes " "

-- A file has another byte for an address than those before it.
abbrev pub IsClash : LoadFault → Type 0
IsClash (NoImage place what number note) = (address : ℕ) × (one : List (Option ℕ))
    × (other : List (Option ℕ)) × IsFirstClash one other (Some address)
    × (place.items ≡ clash_place address) × (what.now ≡ CLASH.now) × (number ≡ None)
    × (note.now ≡ [])
IsClash fault = ⊥

-- Why the images of several files are not joined: one is no image in its form, or is not read; or one
-- has another byte for an address than those before it. Memory may run out at any of them.
abbrev pub EndsJoining : LoadFault → Type 0
EndsJoining fault = ((said : Option Form) × EndsImageFile said fault) ⊎ IsClash fault

-- Why several files are not loaded: the map is wrong, or their images are not joined, or what they
-- make has a byte at the port.
abbrev pub EndsSeveral : FileAsked → Others → LoadFault → Type 0
EndsSeveral asked others fault = EndsOnMap (map_of asked) fault
    ⊎ (EndsJoining fault ⊎ MeetsJoined asked others fault)

-- Why one file is not loaded, or several are not.
abbrev pub EndsOf : Option (List ℕ) → FileAsked → Others → LoadFault → Type 0
EndsOf None asked others fault = EndsLoad asked fault
EndsOf (Some second) asked others fault = EndsSeveral asked others fault

abbrev pub EndsFiles : FileAsked → Others → LoadFault → Type 0
EndsFiles asked others fault = EndsOf others.second asked others fault

-- One file is not loaded with the names of another; or several are not; or their file of names is not
-- read.
abbrev pub EndsMachine : FileAsked → Others → Option (List ℕ) → MachineFault → Type 0
EndsMachine asked others symbols (Alone fault) = EndsNamed asked symbols fault
EndsMachine asked others symbols (OfFile file) = EndsSeveral asked others file.fault
EndsMachine asked others symbols (OfNames fault) = EndsNames asked fault

-- ---- what is told of it

abbrev pub status_of_machine : MachineFault → ℕ
status_of_machine (Alone fault) = status_of_named fault
status_of_machine (OfFile file) = status_of_load file.fault
status_of_machine (OfNames fault) = status_of fault

abbrev pub machine_text : MachineFault → List ℕ → Option (List ℕ) → List ℕ
machine_text (Alone fault) file symbols = named_text fault file symbols
machine_text (OfFile other) file symbols = load_text other.fault other.file.now
machine_text (OfNames fault) file symbols = file_line (unwrap_or symbols []) fault

-- Nothing was loaded, the error stream got why, and the other streams were left alone, `Untouched`.
abbrev pub IsUnmade : FileAsked → Others → Option (List ℕ) → Heard → ℕ → Type 0 → Type 0
IsUnmade asked others symbols heard status Untouched = (fault : MachineFault)
    × EndsMachine asked others symbols fault × (status ≡ status_of_machine fault)
    × Tells heard (machine_text fault asked.file symbols) × Untouched

-- A line names the one file, or one of several.
abbrev pub IsOneOf : Option (List ℕ) → FileAsked → List ℕ → Type 0
IsOneOf None asked file = file ≡ asked.file
IsOneOf (Some second) asked file = ⊤

-- The same of files without a file of names: the line has the name of one of them.
abbrev pub AreUnloaded : FileAsked → Others → Heard → ℕ → Type 0 → Type 0
AreUnloaded asked others heard status Untouched = (file : List ℕ) × (fault : LoadFault)
    × IsOneOf others.second asked file × EndsFiles asked others fault
    × (status ≡ status_of_load fault)
    × Tells heard (load_text fault file) × Untouched

-- A session may begin on files: on the image of one of a source or of a file, or of several.
abbrev pub AreLoaded : FileAsked → Others → Option ℕ → List (Option ℕ) → Option AssemblyView
    → Type 0
AreLoaded asked others fill image assembly = IsMachine asked others None fill image assembly
