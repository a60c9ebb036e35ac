use Rattle.std.proofs.Common.{◌≡◌, ℕ, ◌≤◌, List, drop}
use Rattle.model.specs.Expression.{in_range, number_after}
use Rattle.parser.proofs.atom.number_in.Given as goal

pub record Reads (base number : ℕ) (left all : List ℕ) : Type 0 where
  pub capped : number ≤ 2147483648
  pub same : in_range (number_after base number left) ≡ in_range (number_after base 0 all)

abbrev pub invariant-loop-byte : goal.invariant-loop-byte
invariant-loop-byte l = Reads l.base l.number (drop l.byte-index l.digits) l.digits
