-- Words with a debug file as the program: its files stand in its place, before all other words, and it
-- is debug information.
-- Source: mos65.
use Rattle.std.specs.Prelude.{◌≡◌, ℕ, nat_eq, Bool, List, [], ◌∷◌, ◌++◌, codes, length, drop, Option, Some, None, Ok}
use Rattle.std.specs.List.{ends_with}
use Rattle.clap.specs.Words.{Text}
use Rattle.debug_files.specs.Paths.{folder_of}
use Rattle.debug_images.specs.Parts.{Part, address_of, first_unplaced, parts_of}
use Rattle.debug_records.specs.Info.{Info}
use Rattle.debug_records.specs.Reading.{debug_info}
use Rattle.model.specs.Text.{hex_address}

-- ---- whether a file is the debug file of a program, by its ending

abbrev pub names_program : Text → Bool
names_program word = ends_with nat_eq word (codes ".dbg")

-- ---- the files in its place

-- The name of a file without its folder.
abbrev pub name_in : List ℕ → List ℕ
name_in path = drop (length (folder_of path)) path

-- A file beside the debug file.
abbrev pub path_of : Text → List ℕ → Text
path_of file name = folder_of file ++ name_in name

-- The same with the address of its first byte: `bank.rom@8000`.
abbrev pub part_word : Text → List ℕ → ℕ → Text
part_word file name base = path_of file name ++ (codes "@" ++ hex_address base)

abbrev pub part_word_if : Text → List ℕ → Option ℕ → List Text
part_word_if file name None = []
part_word_if file name (Some base) = part_word file name base ∷ []

abbrev pub part_words : Text → List Part → List Text
part_words file [] = []
part_words file (part ∷ parts)
    = part_word_if file part.file (address_of part.base) ++ part_words file parts

-- These words, the debug information, and the other words.
abbrev pub with_parts : Text → List Part → List Text → List Text
with_parts file parts rest = part_words file parts ++ (codes "--debug-info" ∷ file ∷ rest)

-- What words with a debug file of some text are: each of its files stands at an address.
abbrev pub IsWords : Text → List ℕ → List Text → List Text → Type 0
IsWords file text rest made = (info : Info) × (debug_info text ≡ Ok info)
    × (first_unplaced (parts_of info.segments) ≡ None)
    × (made ≡ with_parts file (parts_of info.segments) rest)

-- The same with some text of the debug file.
abbrev pub IsWithParts : Text → List Text → List Text → Type 0
IsWithParts file rest made = (text : List ℕ) × IsWords file text rest made
