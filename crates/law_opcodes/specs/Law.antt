-- Laws of the opcode table of each profile.
use Rattle.std.specs.Prelude.{◌≡◌, ◌↔◌, ◌<◌, ℕ, Some}
use Rattle.std.specs.List.{All}
use Rattle.model.specs.Mnemonics.{mnemonic_named, mnemonic_text, mnemonics}
use Rattle.model.specs.OpcodeTable.{IsRowOf, opcode_of, row_at}
use Rattle.model.specs.declared.instruction.Profile.{Profile}
use Rattle.model.specs.declared.instruction.Profile.TheVariants.{N, C}
use Rattle.model.specs.declared.instruction.Mnemonic.{Mnemonic}
use Rattle.model.specs.declared.instruction.Mode.{Mode}
use Rattle.model.specs.declared.instruction.Row.{Row}

abbrev pub TableIsReadBothWays : Type 0
TableIsReadBothWays = (profile : Profile) (m : Mnemonic) (d : Mode) (opcode : ℕ) → opcode < 256
    → (opcode_of profile m d ≡ Some opcode) ↔ IsRowOf m d (row_at profile opcode)

-- each mnemonic of a profile
abbrev pub TextsNameMnemonics : Type 0
TextsNameMnemonics = (profile : Profile)
    → All (λ m. mnemonic_named profile (mnemonic_text m) ≡ Some m) (mnemonics profile)

-- and so each one that has an opcode there
abbrev pub TextsNameWhatHasOpcodes : Type 0
TextsNameWhatHasOpcodes = (profile : Profile) (m : Mnemonic) (d : Mode) (opcode : ℕ)
    → opcode_of profile m d ≡ Some opcode → mnemonic_named profile (mnemonic_text m) ≡ Some m

abbrev pub RowsAreKept : Type 0
RowsAreKept = (opcode : ℕ) (row : Row) → row_at N opcode ≡ Some row → row_at C opcode ≡ Some row
