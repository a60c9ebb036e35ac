-- The text of a row, read at its address in the same profile, denotes the row's bytes.
use Rattle.std.specs.Prelude.{◌≡◌, ℕ, ◌<◌, List, length, take, Ok, slice_index}
use Rattle.model.specs.declared.instruction.Profile.{Profile}
use Rattle.model.specs.InstructionText.{row_of}
use Rattle.model.specs.OneLineAssembly.{one_line}

abbrev pub TextIsReadAgain : Type 0
TextIsReadAgain = (profile : Profile) (bytes : List ℕ) (address : ℕ) → 0 < length bytes
    → ((i : ℕ) → slice_index bytes i < 256) → address < 65536
    → one_line profile address (row_of profile bytes address).text
    ≡ Ok (take (row_of profile bytes address).len bytes)
