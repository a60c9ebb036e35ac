-- The opcodes of the NMOS 6502 that its manual does not have. Source: Groepaz and others, NMOS 6510
-- Unintended Opcodes, "No More Secrets": the names, modes and lengths there.
use Rattle.std.specs.Prelude.{ℕ, ◌+◌, ◌*◌, ◌==◌, if◌then◌else◌, List, [], ◌∷◌, ◌++◌, codes, Bool, true, false, Option, Some, None}
use Rattle.model.specs.declared.instruction.Profile.{Profile}
use Rattle.model.specs.declared.instruction.Profile.TheVariants.{N, C}
use Rattle.model.specs.declared.instruction.Mode.{Mode}
use Rattle.model.specs.declared.instruction.Mode.TheVariants.{Imp, Acc, Imm, Zp, ZpX, ZpY, Abs, AbsX, AbsY, IndX, IndY, Ind, Rel, IndZ}
use Rattle.model.specs.InstructionText.{byte_text, word_text}
use Rattle.source_forms.specs.declared.undocumented.Undocumented.{Undocumented}

-- ---- the opcodes

-- One line: opcode, name, mode and length in bytes. At JAM the processor stops.
abbrev pub row : ℕ → List ℕ → Mode → ℕ → ℕ × Undocumented
row opcode name mode len
    = (opcode, record { name = name; mode = mode; len = len; stops = false })

abbrev pub jam : ℕ → ℕ × Undocumented
jam opcode = (opcode, record { name = codes "JAM"; mode = Imp; len = 1; stops = true })

-- The 105 opcodes.
unfoldable pub undocumented_opcodes : List (ℕ × Undocumented)
undocumented_opcodes =
    jam 0x02 ∷
    row 0x03 (codes "SLO") IndX 2 ∷
    row 0x04 (codes "NOP") Zp 2 ∷
    row 0x07 (codes "SLO") Zp 2 ∷
    row 0x0B (codes "ANC") Imm 2 ∷
    row 0x0C (codes "NOP") Abs 3 ∷
    row 0x0F (codes "SLO") Abs 3 ∷
    jam 0x12 ∷
    row 0x13 (codes "SLO") IndY 2 ∷
    row 0x14 (codes "NOP") ZpX 2 ∷
    row 0x17 (codes "SLO") ZpX 2 ∷
    row 0x1A (codes "NOP") Imp 1 ∷
    row 0x1B (codes "SLO") AbsY 3 ∷
    row 0x1C (codes "NOP") AbsX 3 ∷
    row 0x1F (codes "SLO") AbsX 3 ∷
    jam 0x22 ∷
    row 0x23 (codes "RLA") IndX 2 ∷
    row 0x27 (codes "RLA") Zp 2 ∷
    row 0x2B (codes "ANC") Imm 2 ∷
    row 0x2F (codes "RLA") Abs 3 ∷
    jam 0x32 ∷
    row 0x33 (codes "RLA") IndY 2 ∷
    row 0x34 (codes "NOP") ZpX 2 ∷
    row 0x37 (codes "RLA") ZpX 2 ∷
    row 0x3A (codes "NOP") Imp 1 ∷
    row 0x3B (codes "RLA") AbsY 3 ∷
    row 0x3C (codes "NOP") AbsX 3 ∷
    row 0x3F (codes "RLA") AbsX 3 ∷
    jam 0x42 ∷
    row 0x43 (codes "SRE") IndX 2 ∷
    row 0x44 (codes "NOP") Zp 2 ∷
    row 0x47 (codes "SRE") Zp 2 ∷
    row 0x4B (codes "ALR") Imm 2 ∷
    row 0x4F (codes "SRE") Abs 3 ∷
    jam 0x52 ∷
    row 0x53 (codes "SRE") IndY 2 ∷
    row 0x54 (codes "NOP") ZpX 2 ∷
    row 0x57 (codes "SRE") ZpX 2 ∷
    row 0x5A (codes "NOP") Imp 1 ∷
    row 0x5B (codes "SRE") AbsY 3 ∷
    row 0x5C (codes "NOP") AbsX 3 ∷
    row 0x5F (codes "SRE") AbsX 3 ∷
    jam 0x62 ∷
    row 0x63 (codes "RRA") IndX 2 ∷
    row 0x64 (codes "NOP") Zp 2 ∷
    row 0x67 (codes "RRA") Zp 2 ∷
    row 0x6B (codes "ARR") Imm 2 ∷
    row 0x6F (codes "RRA") Abs 3 ∷
    jam 0x72 ∷
    row 0x73 (codes "RRA") IndY 2 ∷
    row 0x74 (codes "NOP") ZpX 2 ∷
    row 0x77 (codes "RRA") ZpX 2 ∷
    row 0x7A (codes "NOP") Imp 1 ∷
    row 0x7B (codes "RRA") AbsY 3 ∷
    row 0x7C (codes "NOP") AbsX 3 ∷
    row 0x7F (codes "RRA") AbsX 3 ∷
    row 0x80 (codes "NOP") Imm 2 ∷
    row 0x82 (codes "NOP") Imm 2 ∷
    row 0x83 (codes "SAX") IndX 2 ∷
    row 0x87 (codes "SAX") Zp 2 ∷
    row 0x89 (codes "NOP") Imm 2 ∷
    row 0x8B (codes "ANE") Imm 2 ∷
    row 0x8F (codes "SAX") Abs 3 ∷
    jam 0x92 ∷
    row 0x93 (codes "SHA") IndY 2 ∷
    row 0x97 (codes "SAX") ZpY 2 ∷
    row 0x9B (codes "TAS") AbsY 3 ∷
    row 0x9C (codes "SHY") AbsX 3 ∷
    row 0x9E (codes "SHX") AbsY 3 ∷
    row 0x9F (codes "SHA") AbsY 3 ∷
    row 0xA3 (codes "LAX") IndX 2 ∷
    row 0xA7 (codes "LAX") Zp 2 ∷
    row 0xAB (codes "LXA") Imm 2 ∷
    row 0xAF (codes "LAX") Abs 3 ∷
    jam 0xB2 ∷
    row 0xB3 (codes "LAX") IndY 2 ∷
    row 0xB7 (codes "LAX") ZpY 2 ∷
    row 0xBB (codes "LAS") AbsY 3 ∷
    row 0xBF (codes "LAX") AbsY 3 ∷
    row 0xC2 (codes "NOP") Imm 2 ∷
    row 0xC3 (codes "DCP") IndX 2 ∷
    row 0xC7 (codes "DCP") Zp 2 ∷
    row 0xCB (codes "SBX") Imm 2 ∷
    row 0xCF (codes "DCP") Abs 3 ∷
    jam 0xD2 ∷
    row 0xD3 (codes "DCP") IndY 2 ∷
    row 0xD4 (codes "NOP") ZpX 2 ∷
    row 0xD7 (codes "DCP") ZpX 2 ∷
    row 0xDA (codes "NOP") Imp 1 ∷
    row 0xDB (codes "DCP") AbsY 3 ∷
    row 0xDC (codes "NOP") AbsX 3 ∷
    row 0xDF (codes "DCP") AbsX 3 ∷
    row 0xE2 (codes "NOP") Imm 2 ∷
    row 0xE3 (codes "ISC") IndX 2 ∷
    row 0xE7 (codes "ISC") Zp 2 ∷
    row 0xEB (codes "SBC") Imm 2 ∷
    row 0xEF (codes "ISC") Abs 3 ∷
    jam 0xF2 ∷
    row 0xF3 (codes "ISC") IndY 2 ∷
    row 0xF4 (codes "NOP") ZpX 2 ∷
    row 0xF7 (codes "ISC") ZpX 2 ∷
    row 0xFA (codes "NOP") Imp 1 ∷
    row 0xFB (codes "ISC") AbsY 3 ∷
    row 0xFC (codes "NOP") AbsX 3 ∷
    row 0xFF (codes "ISC") AbsX 3 ∷
    []

unfoldable pub find_undocumented : ℕ → List (ℕ × Undocumented) → Option Undocumented
find_undocumented opcode [] = None
find_undocumented opcode (line ∷ lines) = if opcode == line.0 then Some line.1
    else find_undocumented opcode lines

-- What an opcode is, if the NMOS processor does something that its manual does not have. Of profile
-- C nothing is said.
unfoldable pub undocumented_at : Profile → ℕ → Option Undocumented
undocumented_at N opcode = find_undocumented opcode undocumented_opcodes
undocumented_at C opcode = None

-- ---- a note

-- Its operand by its mode, its second byte and its third.
abbrev pub bare_operand : Mode → ℕ → ℕ → List ℕ
bare_operand Imp b c = []
bare_operand Acc b c = []
bare_operand Imm b c = codes " #" ++ byte_text b
bare_operand Zp b c = codes " " ++ byte_text b
bare_operand ZpX b c = codes " " ++ (byte_text b ++ codes ",X")
bare_operand ZpY b c = codes " " ++ (byte_text b ++ codes ",Y")
bare_operand Abs b c = codes " " ++ word_text (b + 256 * c)
bare_operand AbsX b c = codes " " ++ (word_text (b + 256 * c) ++ codes ",X")
bare_operand AbsY b c = codes " " ++ (word_text (b + 256 * c) ++ codes ",Y")
bare_operand IndX b c = codes " (" ++ (byte_text b ++ codes ",X)")
bare_operand IndY b c = codes " (" ++ (byte_text b ++ codes "),Y")
bare_operand Ind b c = []
bare_operand Rel b c = []
bare_operand IndZ b c = []

-- What stands behind its bytes: the instruction, after a `;`. Behind a single byte there is no blank,
-- so that a source of 65,536 of them is not longer than a source may be.
abbrev pub mark_of : ℕ → List ℕ
mark_of len = if len == 1 then codes ";" else codes " ; "

unfoldable pub instruction_note : Undocumented → ℕ → ℕ → List ℕ
instruction_note u b c = mark_of u.len ++ (u.name ++ bare_operand u.mode b c)
