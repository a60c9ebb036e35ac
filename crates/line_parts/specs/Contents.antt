-- What a line denotes, where its instruction has an opcode and a mode.
use Rattle.std.specs.Prelude.{Option, Some, None}
use Rattle.line_parts.specs.declared.code.Code.{Code}
use Rattle.model.specs.Layout.{Content, no_bytes, byte_list, word_list, word_list_high_first, code, term_of}
use Rattle.model.specs.SourceLine.{Statement, nothing, origin, bytes, words, words_high_first, reserve, finish, instruction, Line, labelled, definition}

abbrev pub map_option : {A B : Type 0} → (A → B) → Option A → Option B
map_option f None = None
map_option f (Some a) = Some (f a)

abbrev pub code_by : Option Code → Statement → Content
code_by (Some c) (instruction m operand) = code c.opcode c.mode (term_of operand)
code_by c s = no_bytes

-- What a statement denotes, where an instruction has this opcode and this mode.
abbrev pub content_by : Option Code → Statement → Content
content_by c (bytes items) = byte_list items
content_by c (words es) = word_list es
content_by c (words_high_first es) = word_list_high_first es
content_by c (instruction m operand) = code_by c (instruction m operand)
content_by c nothing = no_bytes
content_by c (origin e) = no_bytes
content_by c (reserve e) = no_bytes
content_by c finish = no_bytes

abbrev pub line_content : Option Code → Line → Content
line_content c (labelled name s) = content_by c s
line_content c (definition name e) = no_bytes
