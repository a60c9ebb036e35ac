-- Names of mnemonics, looked up in a table.
use Rattle.std.specs.Prelude.{ℕ, List, [], ◌∷◌, Option, Some, None, if◌then◌else◌}
use Rattle.std.specs.Str.{bytes_eq}
use Rattle.model.specs.declared.instruction.Mnemonic.{Mnemonic}

-- the first of some mnemonics that has these letters
abbrev pub find_name : List ℕ → List (List ℕ × Mnemonic) → Option Mnemonic
find_name letters [] = None
find_name letters (n ∷ ns) = if bytes_eq n.0 letters then Some n.1 else find_name letters ns
