-- What a launch asks for, in the words of the options of `mon`. Source: mos65.
use Rattle.std.specs.Prelude.{ℕ, false, nat_lt, if◌then◌else◌, List, [], Option, Some, None, option_map, unwrap_or}
use Rattle.arguments.specs.Asked.{FileAsked, file_of, form_in}
use Rattle.arguments.specs.FileNames.{name_of}
use Rattle.arguments.specs.Values.{form_asked, port_asked, profile_asked, rom_asked}
use Rattle.dap_messages.specs.Seen.{SeenLaunch}

-- ---- the file, and the map that it is loaded on

-- A file is named, with at most one form, and each option has a value that it can have. No fill is
-- left out.
abbrev pub file_at : SeenLaunch → Option FileAsked
file_at launch = file_of false (option_map name_of launch.program)
    (form_in launch.program (form_asked launch.tape launch.bin launch.prg))
    (port_asked launch.port) (rom_asked launch.rom) (profile_asked launch.profile)

-- The path of the file: empty if none is named.
abbrev pub program_of : SeenLaunch → List ℕ
program_of launch = unwrap_or launch.program []

-- ---- the session

-- How many events are held: 1,048,576 at most, and 65,536 where no number is given.
abbrev pub history_by : Option ℕ → ℕ
history_by None = 65536
history_by (Some count) = if nat_lt count 1048576 then count else 1048576

abbrev pub history_of : SeenLaunch → ℕ
history_of launch = history_by launch.history

-- The most steps of a run, if a number of 32 bits is given.
abbrev pub steps_by : Option ℕ → Option ℕ
steps_by None = None
steps_by (Some count) = if nat_lt count 4294967296 then Some count else None

abbrev pub steps_of : SeenLaunch → Option ℕ
steps_of launch = steps_by launch.steps
