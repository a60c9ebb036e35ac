-- What the words ask for, by the values that clap's definition of a parse finds among them.
use Rattle.std.specs.Prelude.{ℕ, Bool, false, List, Option, Some, None, codes, nat_le, ◌||◌, if◌then◌else◌, option_and_then, option_map}
use Rattle.std.specs.Str.{bytes_eq}
use Rattle.clap.specs.Words.{Row, Text, first_of, subcommand_of}
use Rattle.program.specs.CommandLine.{mos65}
use Rattle.model.specs.Commands.{address_of}
use Rattle.model.specs.declared.instruction.Profile.{Profile}
use Rattle.arguments.specs.Asked.{is_flag}
use Rattle.arguments.specs.Values.{debug_history_asked, port_asked, profile_asked, rom_asked}

pub record AsmAsked : Type 0 where
  pub source : Text
  pub tape : Text
  pub listing : Option Text
  pub port : ℕ
  pub profile : Profile

pub record DisAsked : Type 0 where
  pub tape : Text
  pub first : ℕ
  pub last : ℕ
  pub profile : Profile

pub record DebugAsked : Type 0 where
  pub file : Text
  pub is_tape : Bool
  pub history : ℕ
  pub port : ℕ
  pub rom : Option (ℕ × ℕ)
  pub profile : Profile

pub data Asked : Type 0 where
  asm : AsmAsked → Asked
  dis : DisAsked → Asked
  debug : DebugAsked → Asked

-- a file that is asked for has this name
abbrev pub is_named : Option Text → Text → Bool
is_named None name = false
is_named (Some file) name = bytes_eq file name

-- a file to write has the name of the source, or of the other file to write
abbrev pub overwrites : Text → Text → Option Text → Bool
overwrites source tape listing
    = bytes_eq tape source || is_named listing source || is_named listing tape

abbrev pub asm_of : Option Text → Option Text → Option Text → Option ℕ → Option Profile
    → Option AsmAsked
asm_of (Some source) (Some tape) listing (Some port) (Some profile) =
    if overwrites source tape listing then None
    else Some
    (record { source = source; tape = tape; listing = listing; port = port; profile = profile })
asm_of source tape listing port profile = None

-- the first address is at most the last
abbrev pub dis_of : Option Text → Option ℕ → Option ℕ → Option Profile → Option DisAsked
dis_of (Some tape) (Some first) (Some last) (Some profile) =
    if nat_le first last
    then Some (record { tape = tape; first = first; last = last; profile = profile }) else None
dis_of tape first last profile = None

abbrev pub debug_of : Option Text → Bool → Option ℕ → Option ℕ → Option (Option (ℕ × ℕ))
    → Option Profile → Option DebugAsked
debug_of (Some file) is_tape (Some history) (Some port) (Some rom) (Some profile) =
    Some (record {
      file = file;
      is_tape = is_tape;
      history = history;
      port = port;
      rom = rom;
      profile = profile;
    })
debug_of file is_tape history port rom profile = None

-- what the values of the names of `asm` ask for, where each is one that its name can have
abbrev pub asm_asked : (Text → Option Text) → Option AsmAsked
asm_asked value = asm_of (value (codes "SOURCE")) (value (codes "TAPE")) (value (codes "listing"))
    (port_asked (value (codes "port"))) (profile_asked (value (codes "profile")))

-- what the values of the names of `dis` ask for, where each is one that its name can have
abbrev pub dis_asked : (Text → Option Text) → Option DisAsked
dis_asked value = dis_of (value (codes "TAPE")) (option_and_then address_of (value (codes "LO")))
    (option_and_then address_of (value (codes "HI"))) (profile_asked (value (codes "profile")))

-- what the values of the names of `debug` ask for, where each is one that its name can have
abbrev pub debug_asked : (Text → Option Text) → Option DebugAsked
debug_asked value = debug_of (value (codes "FILE")) (is_flag (value (codes "tape")))
    (debug_history_asked (value (codes "history"))) (port_asked (value (codes "port")))
    (rom_asked (value (codes "rom")))
    (profile_asked (value (codes "profile")))

-- what a subcommand and the values of its names ask for
abbrev pub asked_by : Text → (Text → Option Text) → Option Asked
asked_by name value =
    if bytes_eq name (codes "asm") then option_map asm (asm_asked value)
    else if bytes_eq name (codes "dis") then option_map dis (dis_asked value)
    else if bytes_eq name (codes "debug") then option_map debug (debug_asked value)
    else None

abbrev pub asked_of : Option (Text × List Row) → Option Asked
asked_of = option_and_then (λ p. asked_by p.0 (λ name. first_of name p.1))

-- what the program's words ask for, where the values that clap finds are right
abbrev pub words_in : List Text → Option Asked
words_in words = asked_of (subcommand_of mos65 words)
