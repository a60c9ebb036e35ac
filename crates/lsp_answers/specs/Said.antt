-- What is said of names and instructions. Source: mos65; the words are constants of the code.
use Rattle.std.specs.Prelude.{ℕ, ℤ, pos, negsuc, ◌==◌, nat_lt, Bool, if◌then◌else◌, List, [], ◌++◌, codes, decimal, Option, None, Some}
use Rattle.std.specs.List.{flat_map}
use Rattle.lsp_answers.specs.declared.wording.TheConstants.{BYTE, BYTES, CYCLES, DEFINED, FLAGS, FORM_ABS, FORM_ABSX, FORM_ABSY, FORM_ACC, FORM_IMM, FORM_IMP, FORM_IND, FORM_INDX, FORM_INDY, FORM_INDZ, FORM_REL, FORM_ZP, FORM_ZPX, FORM_ZPY, MORE_BRANCH, MORE_PAGE, NO_FLAG, NO_NUMBER, OPCODE}
use Rattle.model.specs.Effect.{operation_of}
use Rattle.model.specs.Listing.{address_text, number_text}
use Rattle.model.specs.Mnemonics.{mnemonic_text}
use Rattle.model.specs.Names.{Definitions, number_in}
use Rattle.model.specs.Text.{hex_byte}
use Rattle.model.specs.declared.instruction.Mode.{Mode}
use Rattle.model.specs.declared.instruction.Mode.TheVariants.{Imp, Acc, Imm, Zp, ZpX, ZpY, Abs, AbsX, AbsY, IndX, IndY, Ind, Rel, IndZ}
use Rattle.model.specs.declared.instruction.Profile.{Profile}
use Rattle.model.specs.declared.instruction.Row.{Row}
use Rattle.model.specs.declared.registers.Flags.{Flags}
use Rattle.name_uses.specs.Picked.{picked}
use Rattle.name_uses.specs.Uses.{Use}
use Rattle.name_uses.specs.declared.picks.Part.TheVariants.{Definitions as Defining}
use Rattle.opcode_facts.specs.Changed.{changed_by}
use Rattle.opcode_facts.specs.Letters.{flags_text, is_any}

-- ---- a name

-- Behind an address, the same number in decimal.
abbrev pub decimal_words : ℤ → List ℕ
decimal_words (pos n) = if nat_lt n 65536 then codes " (" ++ decimal n ++ codes ")" else []
decimal_words (negsuc n) = []

abbrev pub number_words : Option ℤ → List ℕ
number_words None = NO_NUMBER.now
number_words (Some number) = codes " = " ++ number_text number ++ decimal_words number

abbrev pub line_words : Use → List ℕ
line_words u = DEFINED.now ++ decimal u.line

-- Its number, if it has one, and each line that defines it.
abbrev pub name_words : Definitions → List Use → List ℕ → List ℕ
name_words numbers uses name = name ++ number_words (number_in numbers name)
    ++ flat_map line_words (picked Defining name uses)

-- ---- an instruction

abbrev pub form_words : Mode → List ℕ
form_words Imp = FORM_IMP.now
form_words Acc = FORM_ACC.now
form_words Imm = FORM_IMM.now
form_words Zp = FORM_ZP.now
form_words ZpX = FORM_ZPX.now
form_words ZpY = FORM_ZPY.now
form_words Abs = FORM_ABS.now
form_words AbsX = FORM_ABSX.now
form_words AbsY = FORM_ABSY.now
form_words IndX = FORM_INDX.now
form_words IndY = FORM_INDY.now
form_words Ind = FORM_IND.now
form_words Rel = FORM_REL.now
form_words IndZ = FORM_INDZ.now

abbrev pub len_words : ℕ → List ℕ
len_words len = decimal len ++ (if len == 1 then BYTE.now else BYTES.now)

-- Which cycles come on top: those of a branch that is taken, or that of a page that is crossed.
abbrev pub more_words : Mode → Bool → List ℕ
more_words Rel penalty = MORE_BRANCH.now
more_words mode penalty = if penalty then MORE_PAGE.now else []

abbrev pub flag_words : Flags → List ℕ
flag_words flags = if is_any flags then flags_text flags else NO_FLAG.now

-- Its mnemonic and its form; its address and its opcode; its bytes, its cycles, and those that come
-- on top; and the flags that it may change.
unfoldable pub instruction_words : Profile → ℕ → ℕ → Row → List ℕ
instruction_words profile opcode address row
    = mnemonic_text row.mnemonic ++ codes ", " ++ form_words row.mode
    ++ codes "\n$" ++ address_text address ++ OPCODE.now ++ hex_byte opcode
    ++ codes ", " ++ len_words row.len
    ++ codes ", " ++ decimal row.cycles ++ CYCLES.now ++ more_words row.mode row.penalty
    ++ FLAGS.now ++ flag_words (changed_by profile (operation_of row.mnemonic))
