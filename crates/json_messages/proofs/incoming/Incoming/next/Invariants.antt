use Rattle.std.proofs.Common.{◌≡◌, ◌++◌, List, ℕ}
use Rattle.std.specs.Io.KnownBytes.{Consumes}
use Rattle.json_messages.specs.Taken.{count_with}
use Rattle.json_messages.proofs.incoming.Incoming.next.Given as goal

-- what was read so far stands behind what was held
abbrev pub invariant-loop : goal.invariant-loop
invariant-loop g l = (told : List ℕ) × Consumes (g.R.Read.remaining l.fn.reader) (g.R.Read.remaining l.reader) told
    × (l.self.count ≡ count_with l.fn.self.count told)
    × (l.self.bytes ≡ l.fn.self.bytes ++ told)
