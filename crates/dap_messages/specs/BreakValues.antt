-- The values of answers. The members of an object stand in the order of their names. Source: Debug
-- Adapter Protocol 1.65, "Breakpoint", "BreakpointLocation", "GotoTarget", "CompletionItem",
-- "DataBreakpointInfo Request".
use Rattle.std.specs.Prelude.{ℕ, true, false, List, [], ◌∷◌, codes, Option, Some, None}
use Rattle.dap_messages.specs.Bodies.{list_body}
use Rattle.dap_messages.specs.Texts.{address_text, data_id, range_text, reference}
use Rattle.dap_messages.specs.declared.request.ByteRange.{ByteRange}
use Rattle.json_messages.specs.Values.{count, flag, list_of, object_of, word}
use Rattle.serde_json.specs.Data.{Data, null}

-- ---- breakpoints

-- A breakpoint has a number, and may have a line.
abbrev pub breakpoint_set : ℕ → ℕ → Option ℕ → Data
breakpoint_set id address (Some line) = object_of ((codes "id", count id)
    ∷ (codes "instructionReference", word (reference address)) ∷ (codes "line", count line)
    ∷ (codes "verified", flag true) ∷ [])
breakpoint_set id address None = object_of ((codes "id", count id)
    ∷ (codes "instructionReference", word (reference address)) ∷ (codes "verified", flag true)
    ∷ [])

abbrev pub breakpoint_unset : ℕ → Option ℕ → List ℕ → Data
breakpoint_unset id (Some line) words = object_of ((codes "id", count id)
    ∷ (codes "line", count line) ∷ (codes "message", word words)
    ∷ (codes "verified", flag false) ∷ [])
breakpoint_unset id None words = object_of ((codes "id", count id)
    ∷ (codes "message", word words) ∷ (codes "verified", flag false) ∷ [])

-- ---- lines at which breakpoints can stand

abbrev pub place_on : ℕ → Data
place_on line = object_of ((codes "line", count line) ∷ [])

-- ---- lines to go to

-- An address is the number of a target.
abbrev pub goto_target : ℕ → ℕ → Data
goto_target address line = object_of ((codes "id", count address)
    ∷ (codes "instructionPointerReference", word (reference address))
    ∷ (codes "label", word (address_text address)) ∷ (codes "line", count line) ∷ [])

-- ---- what can stand for what is typed

-- A word stands for so many bytes from a column on.
abbrev pub completion_item : List ℕ → ℕ → ℕ → Data
completion_item text start length = object_of ((codes "label", word text)
    ∷ (codes "length", count length) ∷ (codes "start", count start)
    ∷ (codes "text", word text) ∷ [])

-- Both are called targets.
abbrev pub targets_body : List Data → Data
targets_body ds = list_body (codes "targets") ds

-- ---- watched bytes

-- Bytes are watched by their ID, for changes, for reads or for both.
abbrev pub accesses : Data
accesses = list_of (word (codes "read") ∷ word (codes "write") ∷ word (codes "readWrite") ∷ [])

abbrev pub data_at : ByteRange → Data
data_at range = object_of ((codes "accessTypes", accesses)
    ∷ (codes "dataId", word (data_id range))
    ∷ (codes "description", word (range_text range)) ∷ [])

abbrev pub no_data : List ℕ → Data
no_data words = object_of ((codes "dataId", null) ∷ (codes "description", word words) ∷ [])

abbrev pub data_watched : Data
data_watched = object_of ((codes "verified", flag true) ∷ [])

abbrev pub data_unwatched : List ℕ → Data
data_unwatched words = object_of ((codes "message", word words)
    ∷ (codes "verified", flag false) ∷ [])
