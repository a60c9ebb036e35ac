-- What the words of `debug` with an image ask for, by the values that clap's definition of a parse
-- finds among them. Source: mos65.
use Rattle.std.specs.Prelude.{ℕ, Option, Some, None, codes, option_map}
use Rattle.arguments.specs.FileNames.{name_of}
use Rattle.arguments.specs.Values.{debug_history_asked, port_asked, profile_asked, rom_asked}
use Rattle.clap.specs.Words.{Text}
use Rattle.word_convert.specs.declared.debugging.asked.DebugImageWords.{DebugImageWords}
use Rattle.image_files.specs.Options.{form_said}
use Rattle.image_reader.specs.declared.form.Form.{Form}
use Rattle.model.specs.State.{Map}
use Rattle.model.specs.declared.instruction.Profile.{Profile}

pub record DebugImageAsked : Type 0 where
  pub file : Text
  pub form : Option Form
  pub history : ℕ
  pub port : ℕ
  pub rom : Option (ℕ × ℕ)
  pub profile : Profile

abbrev pub debug_of : Option Text → Option (Option Form) → Option ℕ → Option ℕ
    → Option (Option (ℕ × ℕ)) → Option Profile → Option DebugImageAsked
debug_of (Some file) (Some form) (Some history) (Some port) (Some rom) (Some profile) =
    Some (record {
      file = file;
      form = form;
      history = history;
      port = port;
      rom = rom;
      profile = profile;
    })
debug_of file form history port rom profile = None

-- What the values of the names ask for, where each is one that its name can have.
abbrev pub debug_by : (Text → Option Text) → Option DebugImageAsked
debug_by value = debug_of (option_map name_of (value (codes "FILE")))
    (form_said (value (codes "FILE")) value)
    (debug_history_asked (value (codes "history"))) (port_asked (value (codes "port")))
    (rom_asked (value (codes "rom"))) (profile_asked (value (codes "profile")))

-- What was read, as what is asked for.
abbrev pub debug_view : DebugImageWords → DebugImageAsked
debug_view w = record {
  file = w.file.now;
  form = w.form;
  history = w.history;
  port = w.port;
  rom = w.rom;
  profile = w.profile;
}

-- The map that is asked for, if the port and the ROM make one.
abbrev pub map_asked : DebugImageAsked → Map
map_asked d = record { profile = d.profile; rom = d.rom; port = d.port }
