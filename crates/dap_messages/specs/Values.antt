-- The values of answers and of events. The members of an object stand in the order of their names.
-- Source: Debug Adapter Protocol 1.65, "StackFrame", "DisassembledInstruction", "Evaluate Request",
-- "ReadMemory Request", "Stopped Event", "Output Event", "Invalidated Event".
use Rattle.std.specs.Prelude.{ℕ, List, [], ◌∷◌, codes, map, Option, Some, None}
use Rattle.dap_messages.specs.Answers.{evaluated_body}
use Rattle.dap_messages.specs.Bodies.{list_body, only, yes}
use Rattle.dap_messages.specs.Texts.{reference}
use Rattle.json_messages.specs.Values.{count, list_of, object_of, word}
use Rattle.serde_json.specs.Data.{Data}

-- ---- frames

abbrev pub source : List ℕ → List ℕ → Data
source name path = object_of ((codes "name", word name) ∷ (codes "path", word path) ∷ [])

-- A frame has a number, an address, words that say where it is, and a line of a source.
abbrev pub frame_at_line : ℕ → ℕ → List ℕ → ℕ → ℕ → List ℕ → List ℕ → Data
frame_at_line id address words line column name path = object_of ((codes "column", count column)
    ∷ (codes "id", count id) ∷ (codes "instructionPointerReference", word (reference address))
    ∷ (codes "line", count line) ∷ (codes "name", word words)
    ∷ (codes "source", source name path) ∷ [])

-- Without a line it has the line 0, and is shown as less important.
abbrev pub frame_without_line : ℕ → ℕ → List ℕ → Data
frame_without_line id address words = object_of ((codes "column", count 0)
    ∷ (codes "id", count id)
    ∷ (codes "instructionPointerReference", word (reference address)) ∷ (codes "line", count 0)
    ∷ (codes "name", word words) ∷ (codes "presentationHint", word (codes "subtle")) ∷ [])

-- Some frames, and how many there are.
abbrev pub frames_body : List Data → ℕ → Data
frames_body ds total = object_of ((codes "stackFrames", list_of ds)
    ∷ (codes "totalFrames", count total) ∷ [])

-- The files of the program's source.
abbrev pub sources_body : List Data → Data
sources_body ds = list_body (codes "sources") ds

-- ---- a disassembly

-- An instruction has an address, its bytes and its text.
abbrev pub instruction_row : ℕ → List ℕ → List ℕ → Data
instruction_row address bytes text = object_of ((codes "address", word (reference address))
    ∷ (codes "instruction", word text) ∷ (codes "instructionBytes", word bytes) ∷ [])

abbrev pub at_path : List ℕ → Data
at_path path = object_of ((codes "path", word path) ∷ [])

-- It may begin a line of a source, which has a path.
abbrev pub instruction_at_line : ℕ → List ℕ → List ℕ → ℕ → List ℕ → Data
instruction_at_line address bytes text line path = object_of (
    (codes "address", word (reference address)) ∷ (codes "instruction", word text)
    ∷ (codes "instructionBytes", word bytes) ∷ (codes "line", count line)
    ∷ (codes "location", at_path path) ∷ []
    )

-- A row where no memory is, with an address in decimal.
abbrev pub no_instruction : List ℕ → Data
no_instruction address = object_of ((codes "address", word address)
    ∷ (codes "instruction", word []) ∷ (codes "presentationHint", word (codes "invalid")) ∷ [])

abbrev pub instructions_body : List Data → Data
instructions_body ds = list_body (codes "instructions") ds

-- ---- bytes

abbrev pub looked_at_body : ℕ → List ℕ → Data
looked_at_body address words = object_of ((codes "memoryReference", word (reference address))
    ∷ (codes "result", word words) ∷ (codes "variablesReference", count 0) ∷ [])

-- A byte of memory that is looked at has a reference to its address.
abbrev pub look_body : Option ℕ → List ℕ → Data
look_body (Some address) words = looked_at_body address words
look_body None words = evaluated_body words

abbrev pub memory_body : ℕ → List ℕ → ℕ → Data
memory_body address data_text unread = object_of ((codes "address", word (reference address))
    ∷ (codes "data", word data_text) ∷ (codes "unreadableBytes", count unread) ∷ [])

-- ---- events

-- The numbers are those of the breakpoints that have stopped the machine.
abbrev pub stopped_body : List ℕ → List ℕ → List ℕ → Data
stopped_body reason words hits = object_of ((codes "allThreadsStopped", yes)
    ∷ (codes "description", word words) ∷ (codes "hitBreakpointIds", list_of (map count hits))
    ∷ (codes "reason", word reason) ∷ (codes "threadId", count 1) ∷ [])

abbrev pub output_body : List ℕ → List ℕ → Data
output_body category text = object_of ((codes "category", word category)
    ∷ (codes "output", word text) ∷ [])

abbrev pub invalidated_body : Data
invalidated_body = object_of ((codes "areas", only (word (codes "all"))) ∷ [])
