-- What the words of a file and its map ask for, by the values that clap's definition of a parse finds
-- among them. Source: mos65.
use Rattle.std.specs.Prelude.{ℕ, Bool, false, ◌||◌, Option, Some, None, codes, is_some, option_map}
use Rattle.std.specs.Str.{bytes_eq}
use Rattle.arguments.specs.FileNames.{form_for, name_of}
use Rattle.arguments.specs.Values.{form_asked, port_asked, profile_asked, rom_asked}
use Rattle.arguments.specs.declared.file_options.FileForm.{FileForm}
use Rattle.arguments.specs.declared.file_options.FileWords.{FileWords}
use Rattle.clap.specs.Words.{Text}
use Rattle.model.specs.State.{Map}
use Rattle.model.specs.declared.instruction.Profile.{Profile}

-- clap gives a flag that is there the value `true`.
abbrev pub is_flag : Option Text → Bool
is_flag None = false
is_flag (Some text) = bytes_eq text (codes "true")

pub record FileAsked : Type 0 where
  pub file : Text
  pub form : FileForm
  pub port : ℕ
  pub rom : Option (ℕ × ℕ)
  pub profile : Profile
  pub omits_fill : Bool

-- The map that the file is loaded on, if its port and its ROM make one.
abbrev pub map_of : FileAsked → Map
map_of file = record { profile = file.profile; rom = file.rom; port = file.port }

abbrev pub file_of : Bool → Option Text → Option FileForm → Option ℕ → Option (Option (ℕ × ℕ))
    → Option Profile → Option FileAsked
file_of omits (Some file) (Some form) (Some port) (Some rom) (Some profile) = Some (record {
  file = file;
  form = form;
  port = port;
  rom = rom;
  profile = profile;
  omits_fill = omits;
})
file_of omits file form port rom profile = None

-- `--image`, or `--tape`, its other name.
abbrev pub says_image : (Text → Option Text) → Bool
says_image value = is_flag (value (codes "image")) || is_flag (value (codes "tape"))

-- The form that options say.
abbrev pub form_by : (Text → Option Text) → Option FileForm
form_by value = form_asked (says_image value) (value (codes "bin")) (is_flag (value (codes "prg")))

-- How a file is read, by its word and by what options say.
abbrev pub form_in : Option Text → Option FileForm → Option FileForm
form_in None said = None
form_in (Some word) None = None
form_in (Some word) (Some said) = form_for word said

-- What the values of the names ask for, where each is one that its name can have. Fill at the port
-- is left out of an image only where a port is given.
abbrev pub file_asked : (Text → Option Text) → Option FileAsked
file_asked value = file_of (is_some (value (codes "port")))
    (option_map name_of (value (codes "FILE"))) (form_in (value (codes "FILE")) (form_by value))
    (port_asked (value (codes "port"))) (rom_asked (value (codes "rom")))
    (profile_asked (value (codes "profile")))

-- What was read from the words of a file, as what they ask for.
abbrev pub file_view : FileWords → FileAsked
file_view w = record {
  file = w.file.now;
  form = w.form;
  port = w.port;
  rom = w.rom;
  profile = w.profile;
  omits_fill = w.omits_fill;
}
