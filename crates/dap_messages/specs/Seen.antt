-- Requests without where their texts lie in memory.
use Rattle.std.specs.Prelude.{ℕ, ℤ, Bool, List, map, string_bytes, Option, option_map, String}
use Rattle.std.specs.declared.alloc.Global.{Global}
use Rattle.dap_messages.specs.declared.counting.Counting.{Counting}
use Rattle.dap_messages.specs.declared.members.Member.{Member}
use Rattle.dap_messages.specs.declared.request.Breakpoints.{Breakpoints}
use Rattle.dap_messages.specs.declared.request.Breakpoints.TheVariants as list
use Rattle.dap_messages.specs.declared.request.Change.{Change}
use Rattle.dap_messages.specs.declared.request.Change.TheVariants as change
use Rattle.dap_messages.specs.declared.request.Condition.{Condition}
use Rattle.dap_messages.specs.declared.request.DataBreakpoint.{DataBreakpoint}
use Rattle.dap_messages.specs.declared.request.FunctionBreakpoint.{FunctionBreakpoint}
use Rattle.dap_messages.specs.declared.request.InstructionBreakpoint.{InstructionBreakpoint}
use Rattle.dap_messages.specs.declared.request.Launch.{Launch}
use Rattle.dap_messages.specs.declared.request.Move.{Move}
use Rattle.dap_messages.specs.declared.request.Page.{Page}
use Rattle.dap_messages.specs.declared.request.Query.{Query}
use Rattle.dap_messages.specs.declared.request.Query.TheVariants as query
use Rattle.dap_messages.specs.declared.request.Request.{Request}
use Rattle.dap_messages.specs.declared.request.Request.TheVariants as request
use Rattle.dap_messages.specs.declared.request.Scope.{Scope}
use Rattle.dap_messages.specs.declared.request.SessionRequest.{SessionRequest}
use Rattle.dap_messages.specs.declared.request.SessionRequest.TheVariants as session
use Rattle.dap_messages.specs.declared.request.SourceBreakpoint.{SourceBreakpoint}

-- ---- breakpoints

pub record SeenCondition : Type 0 where
  pub tests : List ℕ
  pub hits : List ℕ

pub record SeenSource : Type 0 where
  pub line : Option ℕ
  pub condition : SeenCondition
  pub log : List ℕ

pub record SeenInstruction : Type 0 where
  pub address : Option ℕ
  pub condition : SeenCondition

pub record SeenFunction : Type 0 where
  pub name : List ℕ
  pub condition : SeenCondition

abbrev pub condition_view : Condition → SeenCondition
condition_view c = record { tests = string_bytes c.tests; hits = string_bytes c.hits }

abbrev pub source_view : SourceBreakpoint → SeenSource
source_view b = record {
  line = b.line;
  condition = condition_view b.condition;
  log = string_bytes b.log;
}

abbrev pub instruction_view : InstructionBreakpoint → SeenInstruction
instruction_view b = record { address = b.address; condition = condition_view b.condition }

abbrev pub function_view : FunctionBreakpoint → SeenFunction
function_view b = record {
  name = string_bytes b.name;
  condition = condition_view b.condition;
}

pub data SeenBreakpoints : Type 0 where
  at_lines : List ℕ → List SeenSource → SeenBreakpoints
  at_addresses : List SeenInstruction → SeenBreakpoints
  at_names : List SeenFunction → SeenBreakpoints
  of_bytes : List DataBreakpoint → SeenBreakpoints

abbrev pub breakpoints_view : Breakpoints → SeenBreakpoints
breakpoints_view (list.Source path listed) = at_lines path.now (map source_view listed.items)
breakpoints_view (list.Instruction listed) = at_addresses (map instruction_view listed.items)
breakpoints_view (list.Function listed) = at_names (map function_view listed.items)
breakpoints_view (list.Data listed) = of_bytes listed.items

-- ---- changes and questions

pub data SeenChange : Type 0 where
  evaluate : List ℕ → Bool → Option ℕ → SeenChange
  set_variable : Option Scope → List ℕ → List ℕ → SeenChange
  goto : Option ℕ → SeenChange
  write_memory : Option ℕ → List ℕ → Bool → SeenChange

abbrev pub change_view : Change → SeenChange
change_view (change.Evaluate text is_console frame) = evaluate text.now is_console frame
change_view (change.SetVariable scope name value) = set_variable scope name.now value.now
change_view (change.Goto address) = goto address
change_view (change.WriteMemory address data_text is_partial)
    = write_memory address data_text.now is_partial

pub data SeenQuery : Type 0 where
  threads : SeenQuery
  stack_trace : Page → SeenQuery
  scopes : Option ℕ → SeenQuery
  variables : Option Scope → Page → SeenQuery
  read_memory : Option ℕ → ℕ → SeenQuery
  disassemble : Option ℕ → ℤ → ℕ → SeenQuery
  goto_targets : List ℕ → Option ℕ → SeenQuery
  breakpoint_locations : List ℕ → Option ℕ → Option ℕ → SeenQuery
  loaded_sources : SeenQuery
  data_breakpoint_info : Option Scope → List ℕ → Option ℕ → Bool → SeenQuery
  completions : List ℕ → Option ℕ → SeenQuery
  exception_info : SeenQuery
  set_exception_breakpoints : SeenQuery
  pause : SeenQuery
  cancel : SeenQuery

abbrev pub query_view : Query → SeenQuery
query_view query.Threads = threads
query_view (query.StackTrace page) = stack_trace page
query_view (query.Scopes frame) = scopes frame
query_view (query.Variables scope page) = variables scope page
query_view (query.ReadMemory address count) = read_memory address count
query_view (query.Disassemble address offset count) = disassemble address offset count
query_view (query.GotoTargets path line) = goto_targets path.now line
query_view (query.BreakpointLocations path line end) = breakpoint_locations path.now line end
query_view query.LoadedSources = loaded_sources
query_view (query.DataBreakpointInfo scope name count is_address)
    = data_breakpoint_info scope name.now count is_address
query_view (query.Completions text column) = completions text.now column
query_view query.ExceptionInfo = exception_info
query_view query.SetExceptionBreakpoints = set_exception_breakpoints
query_view query.Pause = pause
query_view query.Cancel = cancel

-- ---- requests of a session

pub data SeenSessionRequest : Type 0 where
  moves : Move → SeenSessionRequest
  sets : SeenBreakpoints → SeenSessionRequest
  changes : SeenChange → SeenSessionRequest
  shows : SeenQuery → SeenSessionRequest
  configuration_done : SeenSessionRequest
  restart : SeenSessionRequest
  terminate : SeenSessionRequest
  no_thread : SeenSessionRequest
  other : SeenSessionRequest

abbrev pub session_view : SessionRequest → SeenSessionRequest
session_view (session.Moves way) = moves way
session_view (session.Sets listed) = sets (breakpoints_view listed)
session_view (session.Changes change) = changes (change_view change)
session_view (session.Shows query) = shows (query_view query)
session_view session.ConfigurationDone = configuration_done
session_view session.Restart = restart
session_view session.Terminate = terminate
session_view session.NoThread = no_thread
session_view session.Other = other

-- ---- launches, and all requests

pub record SeenLaunch : Type 0 where
  pub program : Option (List ℕ)
  pub tape : Bool
  pub bin : Option (List ℕ)
  pub prg : Bool
  pub port : Option (List ℕ)
  pub rom : Option (List ℕ)
  pub profile : Option (List ℕ)
  pub symbols : Option (List ℕ)
  pub debug_info : Option (List ℕ)
  pub source_root : Option (List ℕ)
  pub history : Option ℕ
  pub steps : Option ℕ
  pub stop_on_entry : Bool

abbrev pub text_view : Option (String Global) → Option (List ℕ)
text_view text = option_map (λ s. string_bytes s) text

abbrev pub launch_view : Launch → SeenLaunch
launch_view l = record {
  program = text_view l.program;
  tape = l.tape;
  bin = text_view l.bin;
  prg = l.prg;
  port = text_view l.port;
  rom = text_view l.rom;
  profile = text_view l.profile;
  symbols = text_view l.symbols;
  debug_info = text_view l.debug_info;
  source_root = text_view l.source_root;
  history = l.history;
  steps = l.steps;
  stop_on_entry = l.stop_on_entry;
}

pub data SeenRequest : Type 0 where
  initialize : Counting → SeenRequest
  launch : SeenLaunch → SeenRequest
  wrong_launch : Member → SeenRequest
  attach : SeenRequest
  disconnect : SeenRequest
  in_session : SeenSessionRequest → SeenRequest
  no_request : SeenRequest

abbrev pub request_view : Request → SeenRequest
request_view (request.Initialize counting) = initialize counting
request_view (request.Launch asked) = launch (launch_view asked)
request_view (request.WrongLaunch member) = wrong_launch member
request_view request.Attach = attach
request_view request.Disconnect = disconnect
request_view (request.InSession asked) = in_session (session_view asked)
request_view request.NoRequest = no_request
