-- The values of answers. The members of an object stand in the order of their names. Source: Debug
-- Adapter Protocol 1.65, "Evaluate Request", "SetVariable Request", "WriteMemory Request",
-- "ExceptionInfo Request".
use Rattle.std.specs.Prelude.{ℕ, List, [], ◌∷◌, codes}
use Rattle.dap_messages.specs.Bodies.{list_body}
use Rattle.json_messages.specs.Values.{count, object_of, word}
use Rattle.serde_json.specs.Data.{Data}

-- ---- breakpoints

abbrev pub breakpoints_body : List Data → Data
breakpoints_body ds = list_body (codes "breakpoints") ds

-- ---- other answers

abbrev pub evaluated_body : List ℕ → Data
evaluated_body words = object_of ((codes "result", word words)
    ∷ (codes "variablesReference", count 0) ∷ [])

abbrev pub value_set_body : List ℕ → Data
value_set_body words = object_of ((codes "value", word words)
    ∷ (codes "variablesReference", count 0) ∷ [])

-- How many bytes were written.
abbrev pub written_body : ℕ → Data
written_body n = object_of ((codes "bytesWritten", count n) ∷ [])

abbrev pub exception_body : List ℕ → Data
exception_body words = object_of ((codes "breakMode", word (codes "always"))
    ∷ (codes "description", word words) ∷ (codes "exceptionId", word (codes "stop")) ∷ [])
