-- The opcodes of the constant are those of the table of each profile: both are computed for every mnemonic in every mode.
use Rattle.std.proofs.Common.{◌≡◌, ℕ, ◌<◌, [], map, refl, sym, subst, get_or}
use denote.Enum.Declared.{tag_of}
use Rattle.model.specs.contracts.instruction.Mnemonic.{the_type as mnemonic_type}
use Rattle.model.specs.contracts.instruction.Mode.{the_type as mode_type}
use Rattle.std.specs.Prelude.{Option, None, Some, IfSome, IfNone}
use Rattle.std.proofs.lemmas.Option.{IfSome_then}
use Rattle.model.specs.declared.instruction.Profile.{Profile}
use Rattle.model.specs.declared.instruction.Profile.TheVariants.{N, C}
use Rattle.model.specs.declared.instruction.Mnemonic.{Mnemonic}
use Rattle.model.specs.declared.instruction.Mode.{Mode}
use Rattle.model.specs.OpcodeTable.{opcode_of, find_opcode, table, documented_opcodes, added_opcodes, row_at, find_row, IsRowOf}
use Rattle.law_opcodes.proofs.Encoding.{all_mnemonics, all_modes, same_at_each, row_of_encoded, encoded_of_row}
use Rattle.optable.specs.Codes.{within}
use Rattle.optable.specs.declared.codes.TheConstants.{CODES}

-- the opcode that the constant has for a mnemonic in a mode
abbrev pub code_of : Mnemonic → Mode → Option ℕ
code_of m d = get_or (get_or CODES (tag_of mnemonic_type m) []) (tag_of mode_type d) None

all_codes : (profile : Profile)
    → map (λ m. map (λ d. within profile (code_of m d)) all_modes) all_mnemonics
    ≡ map (λ m. map (opcode_of profile m) all_modes) all_mnemonics
unfolding opcode_of find_opcode row_at find_row table documented_opcodes added_opcodes
all_codes N = refl
all_codes C = refl

pub code_is : (profile : Profile) (m : Mnemonic) (d : Mode) → within profile (code_of m d) ≡ opcode_of profile m d
code_is profile = same_at_each (λ m d. within profile (code_of m d)) (opcode_of profile) (all_codes profile)

-- what holds of the opcode of a mnemonic in a mode
pub found : (profile : Profile) (m : Mnemonic) (d : Mode) (code : Option ℕ) → code ≡ opcode_of profile m d
    → IfSome code (λ opcode. IsRowOf m d (row_at profile opcode))
found profile m d code is =
    IfSome_then code (subst (λ r. IfSome r (λ opcode. (opcode < 256) × IsRowOf m d (row_at profile opcode))) (sym is) (row_of_encoded profile m d))
    (λ opcode h. h.1)

pub none : (profile : Profile) (m : Mnemonic) (d : Mode) (code : Option ℕ) → code ≡ opcode_of profile m d
    → IfNone code ((opcode : ℕ) → opcode < 256 → ¬ IsRowOf m d (row_at profile opcode))
none profile m d None is = λ opcode below row. let e : opcode_of profile m d ≡ Some opcode = encoded_of_row profile m d opcode below row in cc
none profile m d (Some code) is = tt
