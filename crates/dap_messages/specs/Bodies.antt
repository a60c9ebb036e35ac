-- The bodies of answers. Source: Debug Adapter Protocol 1.65.
use Rattle.std.specs.Prelude.{ℕ, ◌+◌, Bool, true, false, if◌then◌else◌, List, [], ◌∷◌, ◌++◌, codes, map, Option, None, Some}
use Rattle.json_messages.specs.Values.{count, flag, list_of, object_of, word}
use Rattle.serde_json.specs.Data.{Data, array, item, no_items}

-- An object with one member, which is a list.
abbrev pub list_body : List ℕ → List Data → Data
list_body name ds = object_of ((name, list_of ds) ∷ [])

abbrev pub yes : Data
yes = flag true

-- A list of one.
abbrev pub only : Data → Data
only d = array (item d no_items)

abbrev pub nothing : Data
nothing = object_of []

abbrev pub continued : Data
continued = object_of ((codes "allThreadsContinued", yes) ∷ [])

-- An object whose members have these names, and are all true.
abbrev pub all_true : List (List ℕ) → Data
all_true names = object_of (map (λ name. (name, yes)) names)

-- What the adapter can do.
unfoldable pub capabilities : Data
capabilities = all_true (codes "supportsBreakpointLocationsRequest"
    ∷ codes "supportsCancelRequest" ∷ codes "supportsCompletionsRequest"
    ∷ codes "supportsConditionalBreakpoints" ∷ codes "supportsConfigurationDoneRequest"
    ∷ codes "supportsDataBreakpointBytes" ∷ codes "supportsDataBreakpoints"
    ∷ codes "supportsDisassembleRequest"
    ∷ codes "supportsEvaluateForHovers" ∷ codes "supportsExceptionInfoRequest"
    ∷ codes "supportsFunctionBreakpoints" ∷ codes "supportsGotoTargetsRequest"
    ∷ codes "supportsHitConditionalBreakpoints"
    ∷ codes "supportsInstructionBreakpoints" ∷ codes "supportsLoadedSourcesRequest"
    ∷ codes "supportsLogPoints"
    ∷ codes "supportsReadMemoryRequest" ∷ codes "supportsRestartRequest"
    ∷ codes "supportsSetExpression"
    ∷ codes "supportsSetVariable" ∷ codes "supportsStepBack"
    ∷ codes "supportsSteppingGranularity" ∷ codes "supportsTerminateRequest"
    ∷ codes "supportsWriteMemoryRequest" ∷ [])

-- One thread.
abbrev pub threads : Data
threads = object_of ((
  codes "threads",
  only (object_of ((codes "id", count 1) ∷ (codes "name", word (codes "6502")) ∷ [])),
) ∷ [])

-- A scope of a name, by the number that its variables are asked for by.
abbrev pub scope : List ℕ → ℕ → Data
scope name n = object_of ((codes "expensive", flag false) ∷ (codes "name", word name)
    ∷ (codes "variablesReference", count n) ∷ [])

-- The locals of the frame of a number have a number of their own.
abbrev pub locals_scope : ℕ → Data
locals_scope frame = object_of ((codes "expensive", flag false)
    ∷ (codes "name", word (codes "Locals"))
    ∷ (codes "presentationHint", word (codes "locals"))
    ∷ (codes "variablesReference", count (131072 + frame)) ∷ [])

abbrev pub locals_scopes : Option ℕ → List Data
locals_scopes None = []
locals_scopes (Some frame) = locals_scope frame ∷ []

unfoldable pub first_scopes : List Data
first_scopes = scope (codes "Registers") 1 ∷ scope (codes "Flags") 2
    ∷ scope (codes "Symbols") 3 ∷ scope (codes "Stack") 4 ∷ scope (codes "Zero page") 5
    ∷ scope (codes "Machine") 6 ∷ []

-- The registers of a frame that was left by a call or an interrupt are not known.
unfoldable pub other_scopes : List Data
other_scopes = scope (codes "Symbols") 3 ∷ scope (codes "Stack") 4
    ∷ scope (codes "Zero page") 5 ∷ scope (codes "Machine") 6 ∷ []

abbrev pub scopes : Bool → Option ℕ → Data
scopes is_first locals = list_body (codes "scopes")
    (locals_scopes locals ++ (if is_first then first_scopes else other_scopes))
