-- The fields of messages. Source: RFC 6901 (paths).
use Rattle.std.specs.Prelude.{ℕ, Bool, List, Option, option_and_then}
use Rattle.serde_json.specs.Data.{Data}
use Rattle.serde_json.specs.Find.{as_bool, as_number, as_str, as_u64, pointer}

-- The text, the number or the flag at a path, if there is one.
abbrev pub text_at : List ℕ → Data → Option (List ℕ)
text_at path message = option_and_then as_str (pointer path message)

abbrev pub u64_of : Data → Option ℕ
u64_of d = option_and_then as_u64 (as_number d)

abbrev pub number_at : List ℕ → Data → Option ℕ
number_at path message = option_and_then u64_of (pointer path message)

abbrev pub flag_at : List ℕ → Data → Option Bool
flag_at path message = option_and_then as_bool (pointer path message)
