-- What a message asks for, with its arguments. Source: Debug Adapter Protocol 1.65; what stands for
-- an argument that is missing, mos65.
use Rattle.std.specs.Prelude.{ℕ, ◌-◌, ◌==◌, min, ◌&&◌, ◌||◌, nat_le, nat_lt, Bool, false, true, bytes_eq, if◌then◌else◌, List, [], ◌∷◌, codes, map, Option, Some, None, option_and_then, unwrap_or}
use Rattle.dap_messages.specs.Counting.{counting_of}
use Rattle.dap_messages.specs.Members.{wrong_member}
use Rattle.dap_messages.specs.Names.{name_of}
use Rattle.dap_messages.specs.References.{offset_at, place_at, range_in}
use Rattle.dap_messages.specs.Seen.{SeenBreakpoints, SeenChange, SeenCondition, SeenFunction, SeenInstruction, SeenLaunch, SeenQuery, SeenRequest, SeenSessionRequest, SeenSource}
use Rattle.dap_messages.specs.Seen as seen
use Rattle.dap_messages.specs.declared.members.Member.{Member}
use Rattle.dap_messages.specs.declared.names.ChangeName.{ChangeName}
use Rattle.dap_messages.specs.declared.names.ChangeName.TheVariants as change
use Rattle.dap_messages.specs.declared.names.ListName.{ListName}
use Rattle.dap_messages.specs.declared.names.ListName.TheVariants as list
use Rattle.dap_messages.specs.declared.names.QueryName.{QueryName}
use Rattle.dap_messages.specs.declared.names.QueryName.TheVariants as query
use Rattle.dap_messages.specs.declared.names.RequestName.{RequestName}
use Rattle.dap_messages.specs.declared.names.RequestName.TheVariants as to
use Rattle.dap_messages.specs.declared.names.SessionName.{SessionName}
use Rattle.dap_messages.specs.declared.names.SessionName.TheVariants as session
use Rattle.dap_messages.specs.declared.request.Access.{Access}
use Rattle.dap_messages.specs.declared.request.Access.TheVariants as access
use Rattle.dap_messages.specs.declared.request.DataBreakpoint.{DataBreakpoint}
use Rattle.dap_messages.specs.declared.request.Page.{Page}
use Rattle.dap_messages.specs.declared.request.Scope.{Scope}
use Rattle.dap_messages.specs.declared.request.Scope.TheVariants as scope
use Rattle.json_messages.specs.Fields.{flag_at, number_at, text_at}
use Rattle.serde_json.specs.Data.{Data, Items, item, no_items}
use Rattle.serde_json.specs.Find.{as_array, pointer}

-- ---- arguments

-- A text that is missing is empty, a flag that is missing is not set.
abbrev pub text_in : List ℕ → Data → List ℕ
text_in path message = unwrap_or (text_at path message) []

abbrev pub is_set : List ℕ → Data → Bool
is_set path message = unwrap_or (flag_at path message) false

-- A count is 65,536 at most, and 0 if it is missing.
abbrev pub count_in : List ℕ → Data → ℕ
count_in path message = min 65536 (unwrap_or (number_at path message) 0)

-- The number of a target is an address.
abbrev pub address_of : ℕ → Option ℕ
address_of number = if nat_le number 65535 then Some number else None

abbrev pub target_in : Data → Option ℕ
target_in request
    = option_and_then address_of (number_at (codes "/arguments/targetId") request)

-- A word of the zero page has the number of its address, behind all 16-bit numbers. The last byte has
-- none behind it.
abbrev pub locals_of : ℕ → Option Scope
locals_of number = if nat_le 131072 number && nat_lt number 196608
    then Some (scope.Locals (number - 131072)) else None

abbrev pub word_of : ℕ → Option Scope
word_of number = if nat_le 65536 number && nat_lt number 65791
    then Some (scope.Word (number - 65536)) else locals_of number

-- A scope has a number, by which its variables are asked for.
unfoldable pub scope_of : ℕ → Option Scope
scope_of number = if number == 1 then Some scope.Registers
    else if number == 2 then Some scope.Flags
    else if number == 3 then Some scope.Symbols
    else if number == 4 then Some scope.Stack
    else if number == 5 then Some scope.ZeroPage
    else if number == 6 then Some scope.Machine else word_of number

abbrev pub scope_in : Data → Option Scope
scope_in request
    = option_and_then scope_of (number_at (codes "/arguments/variablesReference") request)

-- Values of a list, by the paths of the number of the first and of how many: from the first on, and
-- all, where these are missing.
abbrev pub page_in : List ℕ → List ℕ → Data → Page
page_in first count request = record {
  first = unwrap_or (number_at first request) 0;
  count = unwrap_or (number_at count request) 0;
}

abbrev pub memory_in : Data → Option ℕ
memory_in request
    = place_at (codes "/arguments/memoryReference") (codes "/arguments/offset") request

abbrev pub path_in : Data → List ℕ
path_in request = text_in (codes "/arguments/source/path") request

-- ---- breakpoints

abbrev pub list_in : Items → List Data
list_in no_items = []
list_in (item d ds) = d ∷ list_in ds

-- The breakpoints that a request lists: none if it has no list.
abbrev pub items_in : Data → Items
items_in request = unwrap_or
    (option_and_then as_array (pointer (codes "/arguments/breakpoints") request)) no_items

abbrev pub listed_in : Data → List Data
listed_in request = list_in (items_in request)

abbrev pub condition_of : Data → SeenCondition
condition_of listed = record {
  tests = text_in (codes "/condition") listed;
  hits = text_in (codes "/hitCondition") listed;
}

abbrev pub source_of : Data → SeenSource
source_of listed = record {
  line = number_at (codes "/line") listed;
  condition = condition_of listed;
  log = text_in (codes "/logMessage") listed;
}

abbrev pub instruction_of : Data → SeenInstruction
instruction_of listed = record {
  address = place_at (codes "/instructionReference") (codes "/offset") listed;
  condition = condition_of listed;
}

abbrev pub function_of : Data → SeenFunction
function_of listed = record {
  name = text_in (codes "/name") listed;
  condition = condition_of listed;
}

-- Bytes are watched for changes if another access is named, or none.
abbrev pub access_named : List ℕ → Access
access_named name = if bytes_eq name (codes "read") then access.Read
    else if bytes_eq name (codes "readWrite") then access.ReadWrite else access.Write

abbrev pub data_of : Data → DataBreakpoint
data_of listed = record {
  range = range_in (text_in (codes "/dataId") listed);
  access = access_named (text_in (codes "/accessType") listed);
}

abbrev pub breakpoints_by : Data → ListName → SeenBreakpoints
breakpoints_by request list.Source
    = seen.at_lines (path_in request) (map source_of (listed_in request))
breakpoints_by request list.Instruction
    = seen.at_addresses (map instruction_of (listed_in request))
breakpoints_by request list.Function = seen.at_names (map function_of (listed_in request))
breakpoints_by request list.Data = seen.of_bytes (map data_of (listed_in request))

-- ---- changes

-- A request that names no context is one of the console.
abbrev pub is_console : Data → Bool
is_console request = bytes_eq
    (unwrap_or (text_at (codes "/arguments/context") request) (codes "repl")) (codes "repl")

-- An expression is a register, or a place: a variable of their scope, or of that of names.
abbrev pub is_register : List ℕ → Bool
is_register text = bytes_eq text (codes "PC") || bytes_eq text (codes "A")
    || bytes_eq text (codes "X") || bytes_eq text (codes "Y") || bytes_eq text (codes "S")
    || bytes_eq text (codes "P")

abbrev pub scope_expressed : List ℕ → Scope
scope_expressed text = if is_register text then scope.Registers else scope.Symbols

abbrev pub expression_change : Data → SeenChange
expression_change request = seen.set_variable
    (Some (scope_expressed (text_in (codes "/arguments/expression") request)))
    (text_in (codes "/arguments/expression") request)
    (text_in (codes "/arguments/value") request)

abbrev pub change_by : Data → ChangeName → SeenChange
change_by request change.Evaluate
    = seen.evaluate (text_in (codes "/arguments/expression") request) (is_console request)
    (number_at (codes "/arguments/frameId") request)
change_by request change.SetVariable = seen.set_variable (scope_in request)
    (text_in (codes "/arguments/name") request) (text_in (codes "/arguments/value") request)
change_by request change.SetExpression = expression_change request
change_by request change.Goto = seen.goto (target_in request)
change_by request change.WriteMemory = seen.write_memory (memory_in request)
    (text_in (codes "/arguments/data") request) (is_set (codes "/arguments/allowPartial") request)

-- ---- questions

-- The last of some lines: the first, if no last one is named.
abbrev pub or_line : Option ℕ → Option ℕ → Option ℕ
or_line (Some end) line = Some end
or_line None line = line

abbrev pub end_in : Data → Option ℕ
end_in request = or_line (number_at (codes "/arguments/endLine") request)
    (number_at (codes "/arguments/line") request)

abbrev pub locations_query : Data → SeenQuery
locations_query request = seen.breakpoint_locations (path_in request)
    (number_at (codes "/arguments/line") request) (end_in request)

abbrev pub data_query : Data → SeenQuery
data_query request = seen.data_breakpoint_info (scope_in request)
    (text_in (codes "/arguments/name") request) (number_at (codes "/arguments/bytes") request)
    (is_set (codes "/arguments/asAddress") request)

abbrev pub query_by : Data → QueryName → SeenQuery
query_by request query.Threads = seen.threads
query_by request query.StackTrace = seen.stack_trace
    (page_in (codes "/arguments/startFrame") (codes "/arguments/levels") request)
query_by request query.Scopes = seen.scopes (number_at (codes "/arguments/frameId") request)
query_by request query.Variables = seen.variables (scope_in request)
    (page_in (codes "/arguments/start") (codes "/arguments/count") request)
query_by request query.ReadMemory
    = seen.read_memory (memory_in request) (count_in (codes "/arguments/count") request)
query_by request query.Disassemble = seen.disassemble (memory_in request)
    (offset_at (codes "/arguments/instructionOffset") request)
    (count_in (codes "/arguments/instructionCount") request)
query_by request query.GotoTargets
    = seen.goto_targets (path_in request) (number_at (codes "/arguments/line") request)
query_by request query.BreakpointLocations = locations_query request
query_by request query.LoadedSources = seen.loaded_sources
query_by request query.DataBreakpointInfo = data_query request
query_by request query.Completions = seen.completions (text_in (codes "/arguments/text") request)
    (number_at (codes "/arguments/column") request)
query_by request query.ExceptionInfo = seen.exception_info
query_by request query.SetExceptionBreakpoints = seen.set_exception_breakpoints
query_by request query.Pause = seen.pause
query_by request query.Cancel = seen.cancel

-- ---- requests

-- Those of which the protocol wants a thread named.
abbrev pub needs_thread : SessionName → Bool
needs_thread (session.Moves way) = true
needs_thread (session.Changes change.Goto) = true
needs_thread (session.Shows query.StackTrace) = true
needs_thread (session.Shows query.ExceptionInfo) = true
needs_thread (session.Shows query.Pause) = true
needs_thread _ = false

-- There is one thread, of the number 1.
abbrev pub is_thread : Option ℕ → Bool
is_thread None = false
is_thread (Some number) = number == 1

abbrev pub is_of_thread : Data → Bool
is_of_thread request = is_thread (number_at (codes "/arguments/threadId") request)

abbrev pub asked_of : Data → SessionName → SeenSessionRequest
asked_of request (session.Moves way) = seen.moves way
asked_of request (session.Sets name) = seen.sets (breakpoints_by request name)
asked_of request (session.Changes name) = seen.changes (change_by request name)
asked_of request (session.Shows name) = seen.shows (query_by request name)
asked_of request session.ConfigurationDone = seen.configuration_done
asked_of request session.Restart = seen.restart
asked_of request session.Terminate = seen.terminate
asked_of request session.Other = seen.other

abbrev pub asked_by : Data → SessionName → SeenSessionRequest
asked_by request name = if needs_thread name
    then (if is_of_thread request then asked_of request name else seen.no_thread)
    else asked_of request name

abbrev pub launch_of : Data → SeenLaunch
launch_of request = record {
  program = text_at (codes "/arguments/program") request;
  tape = is_set (codes "/arguments/tape") request;
  bin = text_at (codes "/arguments/bin") request;
  prg = is_set (codes "/arguments/prg") request;
  port = text_at (codes "/arguments/port") request;
  rom = text_at (codes "/arguments/rom") request;
  profile = text_at (codes "/arguments/profile") request;
  symbols = text_at (codes "/arguments/symbols") request;
  debug_info = text_at (codes "/arguments/debugInfo") request;
  source_root = text_at (codes "/arguments/sourceRoot") request;
  history = number_at (codes "/arguments/history") request;
  steps = number_at (codes "/arguments/steps") request;
  stop_on_entry = unwrap_or (flag_at (codes "/arguments/stopOnEntry") request) true;
}

-- A launch is wrong if a member has another value than one that it can have.
abbrev pub launch_by : Data → Option Member → SeenRequest
launch_by request (Some member) = seen.wrong_launch member
launch_by request None = seen.launch (launch_of request)

abbrev pub launch_asked : Data → SeenRequest
launch_asked request = launch_by request (wrong_member request)

abbrev pub request_by : Data → RequestName → SeenRequest
request_by message to.Initialize = seen.initialize (counting_of message)
request_by message to.Launch = launch_asked message
request_by message to.Attach = seen.attach
request_by message to.Disconnect = seen.disconnect
request_by message (to.InSession name) = seen.in_session (asked_by message name)
request_by message to.NoRequest = seen.no_request

abbrev pub request_of : Data → SeenRequest
request_of message = request_by message (name_of message)
