-- What `asm` has to be told of a source. Source: mos65.
use Rattle.std.specs.Prelude.{ℕ, ◌+◌, Bool, true, false, List, [], ◌∷◌, ◌++◌, ◌||◌, ◌==◌, codes, decimal, length, Option, if◌then◌else◌}
use Rattle.memory_map.specs.declared.port.TheConstants.{DEFAULT_PORT}
use Rattle.model.specs.Image.{has_byte}
use Rattle.model.specs.declared.instruction.Profile.{Profile}
use Rattle.model.specs.declared.instruction.Profile.TheVariants.{N, C}

-- Whether an image has a byte at one of the four addresses where the port is if nothing is said.
abbrev pub is_at_port : List (Option ℕ) → Bool
is_at_port part = has_byte part DEFAULT_PORT || has_byte part (DEFAULT_PORT + 1)
    || has_byte part (DEFAULT_PORT + 2) || has_byte part (DEFAULT_PORT + 3)

abbrev pub port_words : Bool → List ℕ
port_words true = codes " --port none"
port_words false = []

abbrev pub profile_words : Profile → List ℕ
profile_words N = []
profile_words C = codes " --profile C"

abbrev pub is_needed : Bool → Profile → Bool
is_needed port N = port
is_needed port C = true

-- The line that says it, or nothing where `asm` takes the source without options.
abbrev pub advice : Bool → Profile → List ℕ
advice port profile = if is_needed port profile then codes "mos65: this is a source for asm"
    ++ (port_words port ++ (profile_words profile ++ 10 ∷ [])) else []

-- ---- what is told of a file of names, and of fill

-- The line that says how many bytes were left out as fill, if some were.
unfoldable pub bytes_text : ℕ → List ℕ
bytes_text count = if count == 0 then []
    else codes "mos65: bytes left out: " ++ decimal count ++ codes "\n"

-- The same in front of another line, and in front of both which lines of a file of names were left
-- out, if some were.
abbrev pub remark : List ℕ → ℕ → List ℕ → List ℕ
remark names bytes line = if length names == 0 then bytes_text bytes ++ line
    else codes "mos65: names left out: " ++ (names ++ (codes "\n" ++ (bytes_text bytes ++ line)))
