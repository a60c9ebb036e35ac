-- Which JSON value an answer is written as. Source: Debug Adapter Protocol 1.65; the values of
-- `Values`, `BreakValues`, `VariableValues`, `Answers` and `Bodies`.
use Rattle.std.specs.Prelude.{List, map}
use Rattle.dap_messages.specs.Answers as answers
use Rattle.dap_messages.specs.Bodies as bodies
use Rattle.dap_messages.specs.BreakValues as breaks
use Rattle.dap_messages.specs.SeenAnswers.{SeenAnswer, SeenItem, variable, plain_variable, variable_at, local_at, frame_at_line, frame_without_line, instruction_row, instruction_at_line, no_instruction, breakpoint_set, breakpoint_unset, data_watched, data_unwatched, place_on, goto_target, source_file, completion_item, nothing, capabilities, continued, threads, scopes, breakpoints_body, targets_body, instructions_body, sources_body, variables_body, frames_body, memory_body, look_body, value_set_body, written_body, exception_body, data_at, no_data}
use Rattle.dap_messages.specs.Values as values
use Rattle.dap_messages.specs.VariableValues as variables
use Rattle.serde_json.specs.Data.{Data}

abbrev pub item_data : SeenItem → Data
item_data (variable name value) = variables.variable name value
item_data (plain_variable name value) = variables.plain_variable name value
item_data (variable_at name address value) = variables.variable_at name address value
item_data (local_at name address value) = variables.local_at name address value
item_data (frame_at_line id address words line column name path)
    = values.frame_at_line id address words line column name path
item_data (frame_without_line id address words) = values.frame_without_line id address words
item_data (instruction_row address bytes text) = values.instruction_row address bytes text
item_data (instruction_at_line address bytes text line path)
    = values.instruction_at_line address bytes text line path
item_data (no_instruction address) = values.no_instruction address
item_data (breakpoint_set id address line) = breaks.breakpoint_set id address line
item_data (breakpoint_unset id line words) = breaks.breakpoint_unset id line words
item_data data_watched = breaks.data_watched
item_data (data_unwatched words) = breaks.data_unwatched words
item_data (place_on line) = breaks.place_on line
item_data (goto_target address line) = breaks.goto_target address line
item_data (source_file name path) = values.source name path
item_data (completion_item text start count) = breaks.completion_item text start count

abbrev pub items_data : List SeenItem → List Data
items_data items = map item_data items

abbrev pub answer_data : SeenAnswer → Data
answer_data nothing = bodies.nothing
answer_data capabilities = bodies.capabilities
answer_data continued = bodies.continued
answer_data threads = bodies.threads
answer_data (scopes is_first locals) = bodies.scopes is_first locals
answer_data (breakpoints_body items) = answers.breakpoints_body (items_data items)
answer_data (targets_body items) = breaks.targets_body (items_data items)
answer_data (instructions_body items) = values.instructions_body (items_data items)
answer_data (sources_body items) = values.sources_body (items_data items)
answer_data (variables_body items) = variables.variables_body (items_data items)
answer_data (frames_body items total) = values.frames_body (items_data items) total
answer_data (memory_body address text unread) = values.memory_body address text unread
answer_data (look_body address words) = values.look_body address words
answer_data (value_set_body words) = answers.value_set_body words
answer_data (written_body count) = answers.written_body count
answer_data (exception_body words) = answers.exception_body words
answer_data (data_at range) = breaks.data_at range
answer_data (no_data words) = breaks.no_data words
