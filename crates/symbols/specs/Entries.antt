-- The entries of the symbol table without where they lie in memory.
use Rattle.std.specs.Prelude.{ℕ, ℤ, List, map, Option}
use Rattle.std.specs.Borrow.{Bor}
use Rattle.std.specs.Option.{option_map}
use Rattle.std.specs.declared.vec.Vec.{Vec}
use Rattle.std.specs.declared.alloc.Global.{Global}
use Rattle.model.specs.Names.{Definitions}

abbrev pub definitions_of : List (Vec ℕ Global × ℤ) → Definitions
definitions_of es = map (λ e. (e.0.items, e.1)) es

-- a name and its number, as they are shown
abbrev pub entry_view : Option (Bor (List ℕ) × ℤ) → Option (List ℕ × ℤ)
entry_view r = option_map (λ p. (p.0.now, p.1)) r
