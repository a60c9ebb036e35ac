-- Which request a message is, by its command. Source: Debug Adapter Protocol 1.65.
use Rattle.std.specs.Prelude.{ℕ, Bool, true, false, bytes_eq, if◌then◌else◌, List, [], ◌∷◌, codes, Option, Some, None, unwrap_or}
use Rattle.std.specs.Borrow.{Bor}
use Rattle.serde_json.specs.Data.{Data}
use Rattle.json_messages.specs.Fields.{number_at, text_at}
use Rattle.dap_messages.specs.declared.names.ChangeName.{ChangeName}
use Rattle.dap_messages.specs.declared.names.ChangeName.TheVariants as change
use Rattle.dap_messages.specs.declared.names.ListName.{ListName}
use Rattle.dap_messages.specs.declared.names.ListName.TheVariants as list
use Rattle.dap_messages.specs.declared.names.QueryName.{QueryName}
use Rattle.dap_messages.specs.declared.names.QueryName.TheVariants as query
use Rattle.dap_messages.specs.declared.names.RequestName.{RequestName}
use Rattle.dap_messages.specs.declared.names.RequestName.TheVariants as to
use Rattle.dap_messages.specs.declared.names.SessionName.{SessionName}
use Rattle.dap_messages.specs.declared.names.SessionName.TheVariants as session
use Rattle.dap_messages.specs.declared.request.Move.{Move}
use Rattle.dap_messages.specs.declared.request.Move.TheVariants as move

-- ---- commands, each with the request that it names

abbrev pub Row : Type 0
Row = List ℕ × RequestName

-- The same without where the name lies in memory.
abbrev pub row_view : Bor (List ℕ) × RequestName → Row
row_view row = (row.0.now, row.1)

abbrev pub in_session : List ℕ → SessionName → Row
in_session name asked = (name, to.InSession asked)

abbrev pub moves : List ℕ → Move → Row
moves name way = in_session name (session.Moves way)

abbrev pub sets : List ℕ → ListName → Row
sets name kind = in_session name (session.Sets kind)

abbrev pub changes : List ℕ → ChangeName → Row
changes name kind = in_session name (session.Changes kind)

abbrev pub shows : List ℕ → QueryName → Row
shows name kind = in_session name (session.Shows kind)

-- All but moves by instructions.
unfoldable pub names : List Row
names = (codes "initialize", to.Initialize) ∷ (codes "launch", to.Launch)
    ∷ (codes "attach", to.Attach) ∷ (codes "disconnect", to.Disconnect)
    ∷ moves (codes "next") move.Over ∷ moves (codes "stepIn") move.In
    ∷ moves (codes "stepOut") move.Out ∷ moves (codes "stepBack") move.BackOver
    ∷ moves (codes "continue") move.Go ∷ moves (codes "reverseContinue") move.BackToStop
    ∷ sets (codes "setBreakpoints") list.Source
    ∷ sets (codes "setInstructionBreakpoints") list.Instruction
    ∷ sets (codes "setFunctionBreakpoints") list.Function
    ∷ sets (codes "setDataBreakpoints") list.Data
    ∷ changes (codes "evaluate") change.Evaluate ∷ changes (codes "setVariable") change.SetVariable
    ∷ changes (codes "setExpression") change.SetExpression
    ∷ changes (codes "goto") change.Goto ∷ changes (codes "writeMemory") change.WriteMemory
    ∷ shows (codes "threads") query.Threads ∷ shows (codes "stackTrace") query.StackTrace
    ∷ shows (codes "scopes") query.Scopes ∷ shows (codes "variables") query.Variables
    ∷ shows (codes "readMemory") query.ReadMemory ∷ shows (codes "disassemble") query.Disassemble
    ∷ shows (codes "gotoTargets") query.GotoTargets
    ∷ shows (codes "breakpointLocations") query.BreakpointLocations
    ∷ shows (codes "loadedSources") query.LoadedSources
    ∷ shows (codes "dataBreakpointInfo") query.DataBreakpointInfo
    ∷ shows (codes "completions") query.Completions
    ∷ shows (codes "exceptionInfo") query.ExceptionInfo
    ∷ shows (codes "setExceptionBreakpoints") query.SetExceptionBreakpoints
    ∷ shows (codes "pause") query.Pause ∷ shows (codes "cancel") query.Cancel
    ∷ in_session (codes "configurationDone") session.ConfigurationDone
    ∷ in_session (codes "restart") session.Restart
    ∷ in_session (codes "terminate") session.Terminate ∷ []

unfoldable pub moves_by_instructions : List Row
moves_by_instructions = moves (codes "next") move.Step ∷ moves (codes "stepIn") move.Step
    ∷ moves (codes "stepBack") move.Back ∷ []

-- The first of some requests that has a name, or else what is given.
abbrev pub find : RequestName → List ℕ → List Row → RequestName
find none name [] = none
find none name (row ∷ rows) = if bytes_eq name row.0 then row.1 else find none name rows

-- ---- a message

-- Whether a text is there, and is this.
abbrev pub is_text : List ℕ → Option (List ℕ) → Bool
is_text text None = false
is_text text (Some found) = bytes_eq found text

abbrev pub by_instructions : Data → Bool
by_instructions message = is_text (codes "instruction")
    (text_at (codes "/arguments/granularity") message)

-- Nothing that is known is another request.
abbrev pub known_name : List ℕ → RequestName
known_name name = find (to.InSession session.Other) name names

abbrev pub name_from : Bool → List ℕ → RequestName
name_from true name = find (known_name name) name moves_by_instructions
name_from false name = known_name name

abbrev pub name_by : Data → Option (List ℕ) → RequestName
name_by message None = to.InSession session.Other
name_by message (Some name) = name_from (by_instructions message) name

abbrev pub is_request : Data → Bool
is_request message = is_text (codes "request") (text_at (codes "/type") message)

-- The command decides. A request without one is another request, a message of another type is none.
abbrev pub name_of : Data → RequestName
name_of message = if is_request message
    then name_by message (text_at (codes "/command") message) else to.NoRequest

-- The command's name, and the number of the message: empty and 0 if they are missing.
abbrev pub command_of : Data → List ℕ
command_of message = unwrap_or (text_at (codes "/command") message) []

abbrev pub number_of : Data → ℕ
number_of message = unwrap_or (number_at (codes "/seq") message) 0
