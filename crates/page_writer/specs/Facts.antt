-- What a page says of a program besides its run: facts, a line each, a word and what it says, and
-- the source. Lines are those of its source, or those of debug information. Source: mos65.
use Rattle.std.specs.Prelude.{ℕ, zero, suc, ℤ, pos, negsuc, ◌+◌, ◌-◌, ◌==◌, ◌&&◌, ◌||◌, nat_le, Bool, true, false, if◌then◌else◌, List, [], ◌∷◌, ◌++◌, codes, decimal, Option, Some, None, option_map}
use Rattle.std.specs.List.{flat_map}
use Rattle.accesses.specs.Writing.{is_written}
use Rattle.assembler.specs.Assembly.{AssemblyView, source_lines}
use Rattle.assembler.specs.Lines.{LineView}
use Rattle.model.specs.Mnemonics.{mnemonic_text}
use Rattle.model.specs.OpcodeTable.{row_at}
use Rattle.model.specs.Text.{hex_address}
use Rattle.model.specs.declared.instruction.Mode.{Mode}
use Rattle.model.specs.declared.instruction.Mode.TheVariants.{Imp, Acc, Imm, Zp, ZpX, ZpY, Abs, AbsX, AbsY, IndX, IndY, Ind, Rel, IndZ}
use Rattle.model.specs.declared.instruction.Profile.{Profile}
use Rattle.model.specs.declared.instruction.Row.{Row as OpcodeRow}
use Rattle.page_writer.specs.Files.{facts_by, files_text, row_numbers}
use Rattle.page_writer.specs.InLine.{line_of}
use Rattle.page_writer.specs.declared.facts.Program.{Program}
use Rattle.source_map.specs.Lines.{PlacesView, rows_of}
use Rattle.source_map.specs.Names.{named_numbers}
use Rattle.source_map.specs.declared.rows.Row.{Row}

-- ---- the title and the port

unfoldable pub title_fact : List ℕ → List ℕ
title_fact title = codes "title " ++ (line_of title ++ codes "\n")

-- The base of the port, if there is a port.
unfoldable pub port_fact : ℕ → List ℕ
port_fact base = if nat_le base 65535 then codes "port " ++ (hex_address base ++ codes "\n") else []

-- ---- opcodes

-- A letter for each mode.
abbrev pub mode_letter : Mode → ℕ
mode_letter Imp = 97
mode_letter Acc = 98
mode_letter Imm = 99
mode_letter Zp = 100
mode_letter ZpX = 101
mode_letter ZpY = 102
mode_letter IndX = 103
mode_letter IndY = 104
mode_letter Rel = 105
mode_letter Abs = 106
mode_letter AbsX = 107
mode_letter AbsY = 108
mode_letter Ind = 109
mode_letter IndZ = 110

-- The mnemonic and the mode of an opcode, in four letters.
abbrev pub cell_of : Option OpcodeRow → List ℕ
cell_of None = codes "...."
cell_of (Some row) = mnemonic_text row.mnemonic ++ mode_letter row.mode ∷ []

abbrev pub opcode_cell : Profile → ℕ → List ℕ
opcode_cell profile opcode = cell_of (row_at profile opcode)

-- The opcodes below a number.
unfoldable pub opcode_cells : Profile → ℕ → List ℕ
opcode_cells profile zero = []
opcode_cells profile (suc n) = opcode_cells profile n ++ opcode_cell profile n

unfoldable pub opcodes_fact : Profile → List ℕ
opcodes_fact profile = codes "ops " ++ (opcode_cells profile 256 ++ codes "\n")

-- ---- where the file has bytes

-- A stretch of so many bytes before an address, if it has one byte at least: its first address, and
-- how many bytes it has.
unfoldable pub stretch_fact : ℕ → ℕ → List ℕ
stretch_fact end len = if len == 0 then []
    else codes "loaded " ++ (hex_address (end - len) ++ (codes " " ++ (decimal len ++ codes "\n")))

-- The stretches of what was written from an address on, if so many bytes stand right before it.
unfoldable pub loaded_facts : ℕ → ℕ → List Bool → List ℕ
loaded_facts address len [] = stretch_fact address len
loaded_facts address len (true ∷ cells) = loaded_facts (address + 1) (len + 1) cells
loaded_facts address len (false ∷ cells) = stretch_fact address len
    ++ loaded_facts (address + 1) 0 cells

-- ---- lines and names

-- A line of the source that has bytes: its number, its address, and how many they are.
unfoldable pub line_fact : Row → List ℕ
line_fact row = codes "line " ++ (row_numbers row ++ codes "\n")

-- A name is shown as a label if it is one of the source. In another file of names it is one if a
-- byte of the program stands at its address.
abbrev pub is_shown : Bool → Bool → List Bool → ℕ → Bool
is_shown is_label is_other written address
    = is_label || (is_other && is_written written address)

abbrev pub kind_word : Bool → List ℕ
kind_word true = codes "label "
kind_word false = codes "name "

unfoldable pub name_fact : Bool → ℕ → List ℕ → List ℕ
name_fact is_label address name = kind_word is_label ++ (hex_address address
    ++ (codes " " ++ (name ++ codes "\n")))

-- A name whose number is an address.
abbrev pub number_fact : Bool → List Bool → (List ℕ × ℤ) × Bool → List ℕ
number_fact is_other written ((name, pos n), is_label) = if nat_le n 65535
    then name_fact (is_shown is_label is_other written n) n name else []
number_fact is_other written ((name, negsuc n), is_label) = []

abbrev pub name_facts : Bool → List Bool → AssemblyView → List ℕ
name_facts is_other written assembly
    = flat_map (number_fact is_other written) (named_numbers assembly)

-- What the source says, if there is one: lines and names.
abbrev pub told_by : List Bool → Option AssemblyView → List ℕ
told_by written None = []
told_by written (Some assembly)
    = flat_map line_fact (rows_of assembly.image (source_lines assembly))
    ++ name_facts false written assembly

-- What another file of names says, if there is one.
abbrev pub names_of : List Bool → Option AssemblyView → List ℕ
names_of written None = []
names_of written (Some names) = name_facts true written names

-- ---- all facts

pub record ProgramView : Type 0 where
  pub title : List ℕ
  pub port : ℕ
  pub profile : Profile
  pub written : List Bool
  pub assembly : Option AssemblyView
  pub debug : Option PlacesView
  pub names : Option AssemblyView

abbrev pub program_view : Program → ProgramView
program_view p = record {
  title = p.title.now;
  port = p.port;
  profile = p.profile;
  written = p.written.now;
  assembly = option_map (λ a. a.now) p.assembly;
  debug = option_map (λ places. places.now) p.debug;
  names = option_map (λ a. a.now) p.names;
}

unfoldable pub facts_text : ProgramView → List ℕ
facts_text p = title_fact p.title ++ (port_fact p.port ++ (opcodes_fact p.profile
    ++ (loaded_facts 0 0 p.written
    ++ (told_by p.written p.assembly ++ (facts_by p.debug ++ names_of p.written p.names)))))

-- ---- the source

-- A line, with its LF.
abbrev pub text_of : LineView → List ℕ
text_of line = line.text ++ 10 ∷ []

-- The lines that were read.
abbrev pub lines_of : AssemblyView → List ℕ
lines_of assembly = flat_map text_of (source_lines assembly)

abbrev pub assembly_text : Option AssemblyView → List ℕ
assembly_text None = []
assembly_text (Some assembly) = lines_of assembly

-- The lines of the source, or of the files that debug information names.
abbrev pub source_text : Option AssemblyView → Option PlacesView → List ℕ
source_text assembly debug = assembly_text assembly ++ files_text debug
