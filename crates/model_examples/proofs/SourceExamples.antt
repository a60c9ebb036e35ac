-- Worked examples of source lines, computed from the definitions.
use Rattle.std.proofs.Common.{◌≡◌, true, [], ◌∷◌, refl, codes}
use Rattle.std.specs.Prelude.{pos, Ok, Err, None, Some}
use Rattle.model.specs.State.{is_port}
use Rattle.model.specs.Image.{has_byte}
use Rattle.model.specs.Token.{tokens_of, tokens_from, token_at}
use Rattle.model.specs.Mnemonics.{mnemonic_named, named_among, mnemonics, mnemonic_text}
use Rattle.model.specs.Expression.{literal, name, binary}
use Rattle.model.specs.Reading.{expression_of}
use Rattle.model.specs.Value.{eval_of}
use Rattle.model.specs.Names.{number_in}
use Rattle.model.specs.SourceLine.{nothing, bytes, instruction, value, string, labelled, definition, immediate, direct, accumulator, whole_expression, operand_of, list_within, directive_of, statement_of, line_of, is_reserved, read_line}
use Rattle.model.specs.Layout.{no_bytes, code, size_of, form_of, statement_at, named_line_at, layout_of}
use Rattle.model.specs.Bytes.{byte_piece, address_piece, zero_page_piece, branch_piece, operand_piece, pieces_of, line_bytes, has_bytes, has_port, place_kinds, lower, lowest, value_fault}
use Rattle.model.specs.Source.{first_context}
use Rattle.model.specs.OneLineAssembly.{one_line}
use Rattle.model.specs.InstructionText.{row_of, operand_text, has_row}
use Rattle.model.specs.OpcodeTable.{opcode_of, find_opcode, row_at, find_row, table, documented_opcodes, added_opcodes}
use Rattle.model.specs.declared.instruction.Profile.TheVariants.{N, C}
use Rattle.model.specs.declared.instruction.Mnemonic.TheVariants.{Asl, Lda}
use Rattle.model.specs.declared.instruction.Mode.TheVariants.{Imm, Rel, Zp, Abs}
use Rattle.model.specs.declared.expression.Operator.TheVariants as operator
use Rattle.model.specs.declared.line.Index.TheVariants as index
use Rattle.model.specs.declared.source_fault.AsmFaultKind.TheVariants as kind

-- ---- lines without names

-- lines that say nothing
remark : read_line N (codes " \t; more") ≡ Ok (labelled None nothing)
unfolding read_line tokens_of tokens_from token_at line_of statement_of
remark = refl

load : read_line N (codes "  lda #$41;") ≡ Ok (labelled None (instruction Lda (immediate (literal (Some (pos 65))))))
unfolding read_line tokens_of tokens_from token_at line_of statement_of mnemonic_named named_among mnemonics mnemonic_text operand_of whole_expression
    expression_of
load = refl

shift : read_line N (codes "ASL A") ≡ Ok (labelled None (instruction Asl accumulator))
unfolding read_line tokens_of tokens_from token_at line_of statement_of mnemonic_named named_among mnemonics mnemonic_text operand_of
shift = refl

marked : read_line N (codes "LDA !foo,x") ≡ Ok (labelled None (instruction Lda (direct true (name (codes "foo")) index.X)))
unfolding read_line tokens_of tokens_from token_at line_of statement_of mnemonic_named named_among mnemonics mnemonic_text operand_of expression_of is_reserved
marked = refl

reserved : read_line N (codes "LDA X") ≡ Err kind.ReservedName
unfolding read_line tokens_of tokens_from token_at line_of statement_of mnemonic_named named_among mnemonics mnemonic_text operand_of expression_of is_reserved
reserved = refl

unfinished : read_line N (codes "LDA X Y") ≡ Err kind.Syntax
unfolding read_line tokens_of tokens_from token_at line_of statement_of mnemonic_named named_among mnemonics mnemonic_text operand_of expression_of
unfinished = refl

two_bytes : read_line N (codes ".byte 1,2") ≡ Ok (labelled None (bytes (value (literal (Some (pos 1))) ∷ value (literal (Some (pos 2))) ∷ [])))
unfolding read_line tokens_of tokens_from token_at line_of statement_of directive_of list_within expression_of
two_bytes = refl

-- an origin places the next line
placed : layout_of (first_context N) (codes "*=$0200") ≡ Ok (record { address = 0; content = no_bytes }, record { profile = N; address = 0x0200; names = [] })
unfolding layout_of read_line tokens_of tokens_from token_at line_of statement_of whole_expression expression_of named_line_at statement_at eval_of
placed = refl

-- a branch to itself
branch : line_bytes (number_in []) (record { address = 0xFFFD; content = code 0xD0 Rel (Some (literal (Some (pos 1)))) }) ≡ 0xD0 ∷ 2 ∷ []
unfolding line_bytes pieces_of operand_piece branch_piece eval_of
branch = refl

-- the lowest kind decides: a byte at the port comes before a division by zero
at_the_port : value_fault (record { profile = N; rom = None; port = 0xF000 }) (number_in []) []
    (record { address = 0xF000; content = code 0xA9 Imm (Some (binary operator.Divide (literal (Some (pos 1))) (literal (Some (pos 0))))) })
    ≡ Some kind.PortAddress
unfolding value_fault pieces_of operand_piece byte_piece eval_of place_kinds has_bytes has_port is_port has_byte size_of lower lowest
at_the_port = refl

-- ---- names, strings and what uses known names

label : read_line N (codes "end:") ≡ Ok (labelled (Some (codes "end")) nothing)
unfolding read_line tokens_of tokens_from token_at line_of statement_of is_reserved mnemonic_named named_among mnemonics mnemonic_text
label = refl

strings : read_line N (codes ".byte \"a;\",1") ≡ Ok (labelled None (bytes (string (97 ∷ 59 ∷ []) ∷ value (literal (Some (pos 1))) ∷ [])))
unfolding read_line tokens_of tokens_from token_at line_of statement_of directive_of list_within expression_of
strings = refl

reserved_name : read_line N (codes "NOP=1") ≡ Err kind.ReservedName
unfolding read_line tokens_of tokens_from token_at line_of whole_expression expression_of is_reserved mnemonic_named named_among mnemonics mnemonic_text
reserved_name = refl

-- a definition gives a name its number, and then an operand that it sizes is in the zero page
defined : layout_of (record { profile = N; address = 0; names = [] }) (codes "zpname = $10")
    ≡ Ok (record { address = 0; content = no_bytes }, record { profile = N; address = 0; names = (codes "zpname", pos 16) ∷ [] })
unfolding layout_of read_line tokens_of tokens_from token_at line_of whole_expression expression_of is_reserved mnemonic_named named_among mnemonics
    mnemonic_text named_line_at eval_of size_of
defined = refl

duplicate : layout_of (record { profile = N; address = 0; names = (codes "a1", pos 1) ∷ [] }) (codes "a1 = 2") ≡ Err kind.DuplicateName
unfolding layout_of read_line tokens_of tokens_from token_at line_of whole_expression expression_of is_reserved mnemonic_named named_among mnemonics
    mnemonic_text named_line_at eval_of size_of
duplicate = refl

unknown_here : layout_of (record { profile = N; address = 0; names = [] }) (codes "n1 = n2") ≡ Err kind.UnknownHere
unfolding layout_of read_line tokens_of tokens_from token_at line_of whole_expression expression_of is_reserved mnemonic_named named_among mnemonics
    mnemonic_text named_line_at eval_of size_of
unknown_here = refl

reserved_room : layout_of (record { profile = N; address = 65535; names = [] }) (codes "foo: .RES foo") ≡ Err kind.OriginRange
unfolding layout_of read_line tokens_of tokens_from token_at line_of statement_of directive_of whole_expression expression_of is_reserved
    mnemonic_named named_among mnemonics mnemonic_text named_line_at statement_at eval_of size_of
reserved_room = refl

-- a name that a line below defines takes the absolute form, one that a line above defines the zero
-- page form
below_here : layout_of (record { profile = N; address = 0; names = [] }) (codes "LDA zpname")
    ≡ Ok (record { address = 0; content = code 0xAD Abs (Some (name (codes "zpname"))) }, record { profile = N; address = 3; names = [] })
unfolding layout_of read_line tokens_of tokens_from token_at line_of statement_of operand_of expression_of is_reserved mnemonic_named named_among
    mnemonics mnemonic_text named_line_at statement_at form_of opcode_of find_opcode table documented_opcodes eval_of size_of
below_here = refl

above_here : layout_of (record { profile = N; address = 0; names = (codes "zpname", pos 16) ∷ [] }) (codes "LDA zpname")
    ≡ Ok (
      record { address = 0; content = code 0xA5 Zp (Some (name (codes "zpname"))) },
      record
          { profile = N; address = 2; names = (codes "zpname", pos 16) ∷ [] },
    )
unfolding layout_of read_line tokens_of tokens_from token_at line_of statement_of operand_of expression_of is_reserved mnemonic_named named_among
    mnemonics mnemonic_text named_line_at statement_at form_of opcode_of find_opcode table documented_opcodes eval_of size_of
above_here = refl

-- ---- profile C

-- the mnemonics that profile C adds are reserved words there alone
reserved_by_profile : read_line C (codes "bra = 1") ≡ Err kind.ReservedName
unfolding read_line tokens_of tokens_from token_at line_of whole_expression expression_of is_reserved mnemonic_named named_among mnemonics mnemonic_text
reserved_by_profile = refl

free_by_profile : read_line N (codes "bra = 1") ≡ Ok (definition (codes "bra") (literal (Some (pos 1))))
unfolding read_line tokens_of tokens_from token_at line_of whole_expression expression_of is_reserved mnemonic_named named_among mnemonics mnemonic_text
free_by_profile = refl

-- `!` takes the absolute mode
store_zero : one_line C 0x0200 (codes "STZ !$10") ≡ Ok (0x9C ∷ 0x10 ∷ 0x00 ∷ [])
unfolding one_line read_line tokens_of tokens_from token_at line_of statement_of mnemonic_named named_among mnemonics mnemonic_text operand_of
    whole_expression expression_of is_reserved named_line_at statement_at form_of opcode_of find_opcode table documented_opcodes added_opcodes eval_of
    size_of pieces_of operand_piece byte_piece address_piece zero_page_piece branch_piece place_kinds line_bytes lower lowest
store_zero = refl

-- `(e)` is the zero page mode, but JMP's
indirect : one_line C 0x0200 (codes "LDA ($10)") ≡ Ok (0xB2 ∷ 0x10 ∷ [])
unfolding one_line read_line tokens_of tokens_from token_at line_of statement_of mnemonic_named named_among mnemonics mnemonic_text operand_of
    whole_expression expression_of is_reserved named_line_at statement_at form_of opcode_of find_opcode table documented_opcodes added_opcodes eval_of
    size_of pieces_of operand_piece byte_piece address_piece zero_page_piece branch_piece place_kinds line_bytes lower lowest
indirect = refl

indirect_in_n : one_line N 0x0200 (codes "LDA ($10)") ≡ Err kind.NoSuchForm
unfolding one_line read_line tokens_of tokens_from token_at line_of statement_of mnemonic_named named_among mnemonics mnemonic_text operand_of
    whole_expression expression_of is_reserved named_line_at statement_at form_of opcode_of find_opcode table documented_opcodes added_opcodes eval_of
    size_of pieces_of operand_piece byte_piece address_piece zero_page_piece branch_piece place_kinds line_bytes lower lowest
indirect_in_n = refl

indirect_too_high : one_line C 0x0200 (codes "LDA ($100)") ≡ Err kind.ByteRange
unfolding one_line read_line tokens_of tokens_from token_at line_of statement_of mnemonic_named named_among mnemonics mnemonic_text operand_of
    whole_expression expression_of is_reserved named_line_at statement_at form_of opcode_of find_opcode table documented_opcodes added_opcodes eval_of
    size_of pieces_of operand_piece byte_piece address_piece zero_page_piece branch_piece place_kinds line_bytes lower lowest
indirect_too_high = refl

jump_indirect : one_line C 0x0200 (codes "JMP ($10)") ≡ Ok (0x6C ∷ 0x10 ∷ 0x00 ∷ [])
unfolding one_line read_line tokens_of tokens_from token_at line_of statement_of mnemonic_named named_among mnemonics mnemonic_text operand_of
    whole_expression expression_of is_reserved named_line_at statement_at form_of opcode_of find_opcode table documented_opcodes added_opcodes eval_of
    size_of pieces_of operand_piece byte_piece address_piece zero_page_piece branch_piece place_kinds line_bytes lower lowest
jump_indirect = refl

branch_always : one_line C 0x02FD (codes "BRA $0301") ≡ Ok (0x80 ∷ 0x02 ∷ [])
unfolding one_line read_line tokens_of tokens_from token_at line_of statement_of mnemonic_named named_among mnemonics mnemonic_text operand_of
    whole_expression expression_of is_reserved named_line_at statement_at form_of opcode_of find_opcode table documented_opcodes added_opcodes eval_of
    size_of pieces_of operand_piece byte_piece address_piece zero_page_piece branch_piece place_kinds line_bytes lower lowest
branch_always = refl

-- the same as text
printed_store : row_of C (0x9C ∷ 0x10 ∷ 0x00 ∷ []) 0x0200 ≡ record { len = 3; text = codes "STZ !$0010" }
unfolding row_of operand_text has_row opcode_of find_opcode row_at find_row table documented_opcodes added_opcodes mnemonic_text
printed_store = refl

printed_indirect : row_of C (0xB2 ∷ 0x10 ∷ []) 0x0200 ≡ record { len = 2; text = codes "LDA ($10)" }
unfolding row_of operand_text has_row opcode_of find_opcode row_at find_row table documented_opcodes added_opcodes mnemonic_text
printed_indirect = refl

printed_byte : row_of N (0xB2 ∷ 0x10 ∷ []) 0x0200 ≡ record { len = 1; text = codes ".BYTE $B2" }
unfolding row_of operand_text row_at find_row table documented_opcodes
printed_byte = refl
