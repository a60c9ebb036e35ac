-- Help on an instruction. Source: mos65.
use Rattle.std.specs.Prelude.{ℕ, ◌==◌, if◌then◌else◌, Bool, List, [], ◌++◌, Option, None, Some, codes, decimal}
use Rattle.std.specs.List.{flat_map}
use Rattle.formatting.specs.Padding.{padded}
use Rattle.model.specs.Effect.{operation_of}
use Rattle.model.specs.Mnemonics.{mnemonic_named, mnemonic_text}
use Rattle.model.specs.OpcodeTable.{opcode_of, row_at}
use Rattle.model.specs.Text.{hex_byte}
use Rattle.model.specs.declared.instruction.Mnemonic.{Mnemonic}
use Rattle.model.specs.declared.instruction.Mode.{Mode}
use Rattle.model.specs.declared.instruction.Mode.TheVariants.{Rel}
use Rattle.model.specs.declared.instruction.Profile.{Profile}
use Rattle.model.specs.declared.instruction.Row.{Row}
use Rattle.model.specs.declared.registers.Flags.{Flags}
use Rattle.opcode_facts.specs.Changed.{changed_by}
use Rattle.opcode_facts.specs.Forms.{all_modes, operand_form}
use Rattle.opcode_facts.specs.Letters.{flags_text, is_any}
use Rattle.mon_session.specs.declared.wording.TheConstants.{NO_INSTRUCTION}
use Rattle.mon_dispatch.specs.declared.wording.TheConstants.{BRANCH_CYCLES, BYTE, BYTES, CHANGES, CHANGES_NO_FLAG, CYCLES, PAGE_CYCLE}

-- ---- the row of a form

abbrev pub len_text : ℕ → List ℕ
len_text len = decimal len ++ (if len == 1 then BYTE.now else BYTES.now)

-- Which cycles come on top: those of a branch that is taken, or that of a page that is crossed.
abbrev pub extra_by : Mode → Bool → List ℕ
extra_by Rel penalty = BRANCH_CYCLES.now
extra_by mode penalty = if penalty then PAGE_CYCLE.now else []

abbrev pub extra_text : Row → List ℕ
extra_text row = extra_by row.mode row.penalty

-- The opcode, how the form is written, its bytes and its cycles.
unfoldable pub form_row : ℕ → Row → List ℕ
form_row opcode row
    = padded 18 (hex_byte opcode ++ codes "  " ++ mnemonic_text row.mnemonic ++ operand_form row.mode)
    ++ len_text row.len ++ decimal row.cycles ++ CYCLES.now ++ extra_text row ++ codes "\n"

-- ---- the forms of a mnemonic

abbrev pub row_form : ℕ → Option Row → List ℕ
row_form opcode None = []
row_form opcode (Some row) = form_row opcode row

abbrev pub opcode_form : Profile → Option ℕ → List ℕ
opcode_form profile None = []
opcode_form profile (Some opcode) = row_form opcode (row_at profile opcode)

-- The form in a mode, if there is one.
abbrev pub form_by : Profile → Mnemonic → Mode → List ℕ
form_by profile mnemonic mode = opcode_form profile (opcode_of profile mnemonic mode)

-- ---- the flags that it changes

abbrev pub changes_text : Flags → List ℕ
changes_text changed = if is_any changed then CHANGES.now ++ flags_text changed
    else CHANGES_NO_FLAG.now

-- What an instruction changes, and a row for each of its forms in a profile.
unfoldable pub all_forms : Profile → Mnemonic → List ℕ
all_forms profile mnemonic = changes_text (changed_by profile (operation_of mnemonic)) ++ codes "\n"
    ++ flat_map (form_by profile mnemonic) all_modes

abbrev pub no_forms : List ℕ
no_forms = NO_INSTRUCTION.now ++ codes "\n"

abbrev pub known_forms : Profile → Option Mnemonic → List ℕ
known_forms profile None = no_forms
known_forms profile (Some mnemonic) = all_forms profile mnemonic

-- The name of an instruction and its forms, if a profile has it.
unfoldable pub forms_text : Profile → Mnemonic → List ℕ
forms_text profile mnemonic = mnemonic_text mnemonic
    ++ known_forms profile (mnemonic_named profile (mnemonic_text mnemonic))
