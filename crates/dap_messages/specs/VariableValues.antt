-- The values of variables. The members of an object stand in the order of their names. Source: Debug
-- Adapter Protocol 1.65, "Variable", "Variables Request".
use Rattle.std.specs.Prelude.{ℕ, ◌+◌, nat_lt, if◌then◌else◌, List, [], ◌∷◌, codes}
use Rattle.dap_messages.specs.Bodies.{list_body}
use Rattle.dap_messages.specs.Texts.{reference}
use Rattle.json_messages.specs.Values.{count, list_of, object_of, word}
use Rattle.serde_json.specs.Data.{Data}

-- A variable of a name, with its value. It has no variables of its own.
abbrev pub variable : List ℕ → List ℕ → Data
variable name value = object_of ((codes "evaluateName", word name) ∷ (codes "name", word name)
    ∷ (codes "value", word value) ∷ (codes "variablesReference", count 0) ∷ [])

-- A variable that no expression stands for: the console reads neither a flag nor a count.
abbrev pub plain_variable : List ℕ → List ℕ → Data
plain_variable name value = object_of ((codes "name", word name) ∷ (codes "value", word value)
    ∷ (codes "variablesReference", count 0) ∷ [])

-- The number by which the word at an address is asked for, if it lies in the zero page: else 0.
abbrev pub word_number : ℕ → ℕ
word_number address = if nat_lt address 255 then 65536 + address else 0

-- A byte has a reference to its address, by which the memory there is read.
abbrev pub variable_with : List ℕ → ℕ → List ℕ → ℕ → Data
variable_with name address value number = object_of ((codes "evaluateName", word name)
    ∷ (codes "memoryReference", word (reference address)) ∷ (codes "name", word name)
    ∷ (codes "value", word value) ∷ (codes "variablesReference", count number) ∷ [])

abbrev pub variable_at : List ℕ → ℕ → List ℕ → Data
variable_at name address value = variable_with name address value (word_number address)

-- That a value cannot be set.
abbrev pub read_only : Data
read_only = object_of ((codes "attributes", list_of (word (codes "readOnly") ∷ [])) ∷ [])

-- A local of C has a reference to its first byte. It is not set under its name: its bytes are.
abbrev pub local_at : List ℕ → ℕ → List ℕ → Data
local_at name address value = object_of ((codes "evaluateName", word name)
    ∷ (codes "memoryReference", word (reference address)) ∷ (codes "name", word name)
    ∷ (codes "presentationHint", read_only) ∷ (codes "value", word value)
    ∷ (codes "variablesReference", count 0) ∷ [])

abbrev pub variables_body : List Data → Data
variables_body ds = list_body (codes "variables") ds
