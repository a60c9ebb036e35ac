-- The forms of operations. Source: Language Server Protocol 3.17, "Signature Help Request"; how a
-- form is written, mos65.
use Rattle.std.specs.Prelude.{ℕ, List, [], ◌∷◌, ◌++◌, codes, Option, Some, None}
use Rattle.std.specs.List.{flat_map}
use Rattle.std.specs.Str.Lossy.{utf8_lossy}
use Rattle.lsp_hints.specs.Operands.{meant_form, operand_of}
use Rattle.lsp_hints.specs.Operations.{operation_at}
use Rattle.lsp_hints.specs.declared.operation.Operation.{Operation}
use Rattle.lsp_hints.specs.declared.operation.Operation.TheVariants.{Instruction, Bytes, Words, WordsHighFirst, Reserve, Finish, Origin, Definition}
use Rattle.lsp_hints.specs.declared.wording.TheConstants.{BYTE_FORM, DBYTE_FORM, DEFINITION_FORM, END_FORM, ORIGIN_FORM, RES_FORM, WORD_FORM}
use Rattle.lsp_messages.specs.Columns.{column_of}
use Rattle.json_messages.specs.Values.{count, list_of, object_of, word}
use Rattle.model.specs.Mnemonics.{mnemonic_text}
use Rattle.model.specs.OpcodeTable.{opcode_of}
use Rattle.model.specs.declared.instruction.Mnemonic.{Mnemonic}
use Rattle.model.specs.declared.instruction.Mode.{Mode}
use Rattle.model.specs.declared.instruction.Profile.{Profile}
use Rattle.opcode_facts.specs.Forms.{all_modes, operand_form}
use Rattle.serde_json.specs.Data.{Data, null}

abbrev pub form_label : Mnemonic → List ℕ → List ℕ
form_label m operand = mnemonic_text m ++ operand

abbrev pub signature_data : List ℕ → Data
signature_data label = object_of ((codes "label", word label) ∷ [])

abbrev pub form_by : Mnemonic → List ℕ → Option ℕ → List Data
form_by m operand None = []
form_by m operand (Some opcode) = signature_data (utf8_lossy (form_label m operand)) ∷ []

-- The form of a mnemonic in a mode, if the profile has it.
abbrev pub form_of : Profile → Mnemonic → Mode → List Data
form_of profile m mode = form_by m (operand_form mode) (opcode_of profile m mode)

-- The forms of an operation: of a mnemonic one for each of its modes.
abbrev pub forms_of : Profile → Operation → List Data
forms_of profile (Instruction m) = flat_map (form_of profile m) all_modes
forms_of profile Bytes = signature_data BYTE_FORM.now ∷ []
forms_of profile Words = signature_data WORD_FORM.now ∷ []
forms_of profile WordsHighFirst = signature_data DBYTE_FORM.now ∷ []
forms_of profile Reserve = signature_data RES_FORM.now ∷ []
forms_of profile Finish = signature_data END_FORM.now ∷ []
forms_of profile Origin = signature_data ORIGIN_FORM.now ∷ []
forms_of profile Definition = signature_data DEFINITION_FORM.now ∷ []

-- Which of these forms is meant by what is written of the operand.
abbrev pub meant_of : Profile → Operation → List ℕ → ℕ
meant_of profile (Instruction m) operand = meant_form profile m operand
meant_of profile operation operand = 0

abbrev pub help_data : ℕ → Data → Data
help_data meant signatures = object_of ((codes "activeSignature", count meant)
    ∷ (codes "signatures", signatures) ∷ [])

abbrev pub help_with : Profile → List ℕ → Operation → Data
help_with profile operand operation
    = help_data (meant_of profile operation operand) (list_of (forms_of profile operation))

abbrev pub help_of : Profile → List ℕ → Option Operation → Data
help_of profile operand None = null
help_of profile operand (Some operation) = help_with profile operand operation

-- The forms of the operation of a line, where a place is behind its word.
abbrev pub signatures_of : Profile → List ℕ → ℕ → Data
signatures_of profile line character
    = help_of profile (operand_of line) (operation_at profile line (column_of character line))
