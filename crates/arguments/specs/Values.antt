-- What the words that stand for values mean. Source: mos65.
use Rattle.arguments.specs.declared.file_options.FileForm.{FileForm}
use Rattle.arguments.specs.declared.file_options.FileForm.TheVariants.{Source, Records, Raw, Prg}
use Rattle.memory_map.specs.declared.port.TheConstants.{DEFAULT_PORT}
use Rattle.model.specs.Digits.{decimal_number}
use Rattle.model.specs.Commands.{address_of}
use Rattle.model.specs.State.{no_port}
use Rattle.model.specs.declared.instruction.Profile.{Profile}
use Rattle.model.specs.declared.instruction.Profile.TheVariants.{C, N}
use Rattle.std.specs.Str.{bytes_eq}
use Rattle.std.specs.Prelude.{ℕ, Bool, true, false, List, codes, length, take, drop, get_or, nat_lt, nat_le, ◌==◌, ◌&&◌, if◌then◌else◌, Option, Some, None, option_map}

-- a number of at most 65,536
abbrev pub at_most_65536 : Option ℕ → Option ℕ
at_most_65536 None = None
at_most_65536 (Some number) = if nat_le number 65536 then Some number else None

-- the history is written by one to five decimal digits, and is at most 65,536
abbrev pub history_of : List ℕ → Option ℕ
history_of word =
    if length word == 0 then None
    else if nat_lt 5 (length word) then None
    else at_most_65536 (decimal_number word)

-- both addresses, where there are both
abbrev pub both : Option ℕ → Option ℕ → Option (ℕ × ℕ)
both (Some low) (Some high) = Some (low, high)
both low high = None

-- LO-HI, each an address
abbrev pub range_of : List ℕ → Option (ℕ × ℕ)
range_of word =
    if length word == 9 && get_or word 4 0 == 45
    then both (address_of (take 4 word)) (address_of (drop 5 word))
    else None

-- the history of `debug` that is asked for: 1,024 where no word says it
abbrev pub debug_history_asked : Option (List ℕ) → Option ℕ
debug_history_asked None = Some 1024
debug_history_asked (Some word) = history_of word

-- the base of a port, or of none
abbrev pub base_of : Option ℕ → ℕ
base_of None = no_port
base_of (Some base) = base

-- the base of the port, or `none` for no port
abbrev pub port_of : List ℕ → Option ℕ
port_of word = if bytes_eq word (codes "none") then Some no_port else address_of word

-- the port that is asked for: the usual one where no word says it
abbrev pub port_asked : Option (List ℕ) → Option ℕ
port_asked None = Some DEFAULT_PORT
port_asked (Some word) = port_of word

-- raw bytes from an address on
abbrev pub raw_form : Option ℕ → Option FileForm
raw_form None = None
raw_form (Some address) = Some (Raw address)

-- how options say that a file is read: by at most one of `--image`, `--bin HHHH` and `--prg`, and
-- without them as a source
abbrev pub form_asked : Bool → Option (List ℕ) → Bool → Option FileForm
form_asked false None false = Some Source
form_asked true None false = Some Records
form_asked false (Some word) false = raw_form (address_of word)
form_asked false None true = Some Prg
form_asked is_tape raw is_prg = None

-- the ROM that is asked for: none where no word says it
abbrev pub rom_asked : Option (List ℕ) → Option (Option (ℕ × ℕ))
rom_asked None = Some None
rom_asked (Some word) = option_map Some (range_of word)

-- a profile is written by its letter, 78 for N and 67 for C
abbrev pub profile_of : List ℕ → Option Profile
profile_of word =
    if length word == 1 && get_or word 0 0 == 78 then Some N
    else if length word == 1 && get_or word 0 0 == 67 then Some C
    else None

-- the profile that is asked for: N where no word says it
abbrev pub profile_asked : Option (List ℕ) → Option Profile
profile_asked None = Some N
profile_asked (Some word) = profile_of word

-- A number is written by one to eighteen decimal digits.
abbrev pub number_of : List ℕ → Option ℕ
number_of word =
    if length word == 0 then None
    else if nat_lt 18 (length word) then None
    else decimal_number word

-- The most steps that are asked for: 2 ^ 64 - 1 where no word says it.
abbrev pub steps_asked : Option (List ℕ) → Option ℕ
steps_asked None = Some 18446744073709551615
steps_asked (Some word) = number_of word

-- A history of at most 1,048,576 events, as a session can hold.
abbrev pub at_most_1048576 : Option ℕ → Option ℕ
at_most_1048576 None = None
at_most_1048576 (Some number) = if nat_le number 1048576 then Some number else None

-- The history of `mon` that is asked for: at most 1,048,576, and 65,536 where no word says it.
abbrev pub history_asked : Option (List ℕ) → Option ℕ
history_asked None = Some 65536
history_asked (Some word) = at_most_1048576 (number_of word)
