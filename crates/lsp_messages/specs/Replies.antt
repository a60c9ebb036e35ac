-- Answers and notices. The members stand in the order of their names. Source: JSON-RPC 2.0,
-- "Response object", "Error object", "Notification"; Language Server Protocol 3.17, "ErrorCodes".
use Rattle.std.specs.Prelude.{ℕ, ℤ, negsuc, List, [], ◌∷◌, codes}
use Rattle.json_messages.specs.Values.{object_of, word}
use Rattle.lsp_messages.specs.declared.replies.Failure.{Failure}
use Rattle.lsp_messages.specs.declared.replies.Failure.TheVariants.{NotJson, NoRequest, UnknownMethod, WrongParameters, NotInitialized, Refused}
use Rattle.serde_json.specs.Data.{Data, number}
use Rattle.serde_json.specs.Find.{of_integer}

-- The numbers of failures: -32700, -32600, -32601, -32602, -32002 and -32803.
abbrev pub number_of : Failure → ℤ
number_of NotJson = negsuc 32699
number_of NoRequest = negsuc 32599
number_of UnknownMethod = negsuc 32600
number_of WrongParameters = negsuc 32601
number_of NotInitialized = negsuc 32001
number_of Refused = negsuc 32802

-- The answer to a request: its number, and a result.
abbrev pub result_data : Data → Data → Data
result_data id result = object_of ((codes "id", id)
    ∷ (codes "jsonrpc", word (codes "2.0")) ∷ (codes "result", result) ∷ [])

-- The answer to a request that fails: its number, why, and words.
abbrev pub failure_data : Data → Failure → List ℕ → Data
failure_data id failure words = object_of ((
  codes "error",
  object_of ((codes "code", number (of_integer (number_of failure)))
      ∷ (codes "message", word words) ∷ []),
) ∷ (codes "id", id) ∷ (codes "jsonrpc", word (codes "2.0")) ∷ [])

-- A notice of the server.
abbrev pub notice_data : List ℕ → Data → Data
notice_data method params = object_of ((codes "jsonrpc", word (codes "2.0"))
    ∷ (codes "method", word method) ∷ (codes "params", params) ∷ [])
