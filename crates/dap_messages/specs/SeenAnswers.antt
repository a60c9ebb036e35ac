-- Answers without where their texts lie in memory. Source: Debug Adapter Protocol 1.65; what is
-- answered, mos65.
use Rattle.std.specs.Prelude.{ℕ, Bool, List, map, string_bytes, Option, None}
use Rattle.dap_messages.specs.declared.answer.Answer.{Answer}
use Rattle.dap_messages.specs.declared.answer.Answer.TheVariants as answer
use Rattle.dap_messages.specs.declared.item.Item.{Item}
use Rattle.dap_messages.specs.declared.item.Item.TheVariants as item
use Rattle.dap_messages.specs.declared.request.ByteRange.{ByteRange}

-- ---- what a list has

pub data SeenItem : Type 0 where
  -- A name and a value.
  variable : List ℕ → List ℕ → SeenItem
  -- The same, where no expression stands for the name.
  plain_variable : List ℕ → List ℕ → SeenItem
  -- The byte at an address, under a name, with its value.
  variable_at : List ℕ → ℕ → List ℕ → SeenItem
  -- A local of C at an address, under its name, with its value.
  local_at : List ℕ → ℕ → List ℕ → SeenItem
  -- A number, an address and words, a line, a column, and the name and the path of a source.
  frame_at_line : ℕ → ℕ → List ℕ → ℕ → ℕ → List ℕ → List ℕ → SeenItem
  -- A number, an address and words.
  frame_without_line : ℕ → ℕ → List ℕ → SeenItem
  -- An address, bytes and a text.
  instruction_row : ℕ → List ℕ → List ℕ → SeenItem
  -- The same, with a line, and the path of its source.
  instruction_at_line : ℕ → List ℕ → List ℕ → ℕ → List ℕ → SeenItem
  -- An address where no memory is, in decimal.
  no_instruction : List ℕ → SeenItem
  -- A number, an address, and the line if there is one.
  breakpoint_set : ℕ → ℕ → Option ℕ → SeenItem
  -- A number, the line if there is one, and words of why it is not set.
  breakpoint_unset : ℕ → Option ℕ → List ℕ → SeenItem
  data_watched : SeenItem
  -- Words of why it is not watched.
  data_unwatched : List ℕ → SeenItem
  -- A line at which a breakpoint can stand.
  place_on : ℕ → SeenItem
  -- An address that can be gone to, and its line.
  goto_target : ℕ → ℕ → SeenItem
  -- A file of the source, by its name and its path.
  source_file : List ℕ → List ℕ → SeenItem
  -- A text, the column that it stands from, and for how many bytes it stands.
  completion_item : List ℕ → ℕ → ℕ → SeenItem

abbrev pub item_view : Item → SeenItem
item_view (item.Variable name value) = variable (string_bytes name) (string_bytes value)
item_view (item.PlainVariable name value) = plain_variable (string_bytes name) (string_bytes value)
item_view (item.Byte name address value)
    = variable_at (string_bytes name) address (string_bytes value)
item_view (item.Local name address value)
    = local_at (string_bytes name) address (string_bytes value)
item_view (item.FrameAtLine id address words line column name path) = frame_at_line id address
    (string_bytes words) line column (string_bytes name) (string_bytes path)
item_view (item.Frame id address words) = frame_without_line id address (string_bytes words)
item_view (item.Instruction address bytes text)
    = instruction_row address (string_bytes bytes) (string_bytes text)
item_view (item.InstructionAtLine address bytes text line path) = instruction_at_line address
    (string_bytes bytes) (string_bytes text) line (string_bytes path)
item_view (item.NoInstruction address) = no_instruction (string_bytes address)
item_view (item.BreakpointSet id address line) = breakpoint_set id address line
item_view (item.BreakpointUnset id line words) = breakpoint_unset id line (string_bytes words)
item_view item.Watched = data_watched
item_view (item.Unwatched words) = data_unwatched (string_bytes words)
item_view (item.Place line) = place_on line
item_view (item.GotoTarget address line) = goto_target address line
item_view (item.Source name path) = source_file (string_bytes name) (string_bytes path)
item_view (item.Completion text start count) = completion_item (string_bytes text) start count

-- ---- answers

pub data SeenAnswer : Type 0 where
  nothing : SeenAnswer
  -- What the adapter can do.
  capabilities : SeenAnswer
  -- The machine runs.
  continued : SeenAnswer
  threads : SeenAnswer
  -- Of the first frame, or of another, with the number of the frame if it has locals.
  scopes : Bool → Option ℕ → SeenAnswer
  breakpoints_body : List SeenItem → SeenAnswer
  targets_body : List SeenItem → SeenAnswer
  instructions_body : List SeenItem → SeenAnswer
  sources_body : List SeenItem → SeenAnswer
  variables_body : List SeenItem → SeenAnswer
  -- Some frames, and how many there are.
  frames_body : List SeenItem → ℕ → SeenAnswer
  -- Bytes from an address on, in Base64, and how many more were asked for.
  memory_body : ℕ → List ℕ → ℕ → SeenAnswer
  -- The address of what is looked at, if it is a byte, and words.
  look_body : Option ℕ → List ℕ → SeenAnswer
  value_set_body : List ℕ → SeenAnswer
  -- How many bytes were written.
  written_body : ℕ → SeenAnswer
  -- Why a step was refused.
  exception_body : List ℕ → SeenAnswer
  -- Bytes can be watched.
  data_at : ByteRange → SeenAnswer
  -- Words of why nothing can be watched.
  no_data : List ℕ → SeenAnswer

-- What a line of the console has said.
abbrev pub evaluated_body : List ℕ → SeenAnswer
evaluated_body words = look_body None words

abbrev pub answer_view : Answer → SeenAnswer
answer_view answer.Nothing = nothing
answer_view answer.Capabilities = capabilities
answer_view answer.Continued = continued
answer_view answer.Threads = threads
answer_view (answer.Scopes is_first locals) = scopes is_first locals
answer_view (answer.Breakpoints items) = breakpoints_body (map item_view items.items)
answer_view (answer.Targets items) = targets_body (map item_view items.items)
answer_view (answer.Instructions items) = instructions_body (map item_view items.items)
answer_view (answer.Sources items) = sources_body (map item_view items.items)
answer_view (answer.Variables items) = variables_body (map item_view items.items)
answer_view (answer.Frames items total) = frames_body (map item_view items.items) total
answer_view (answer.Memory address text unread) = memory_body address (string_bytes text) unread
answer_view (answer.Look address words) = look_body address (string_bytes words)
answer_view (answer.ValueSet words) = value_set_body (string_bytes words)
answer_view (answer.Written count) = written_body count
answer_view (answer.Exception words) = exception_body (string_bytes words)
answer_view (answer.DataAt range) = data_at range
answer_view (answer.NoData words) = no_data (string_bytes words)
