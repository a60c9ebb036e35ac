-- The address behind base+1.
use Rattle.std.proofs.Common.{◌≡◌, ℕ, ◌+◌, ◌-◌, arith}
use Rattle.std.specs.Prelude.{◌&&◌, ◌==◌, nat_lt}
use Rattle.std.proofs.lemmas.Bool.Decides.{nat_tests}

pub behind : (address port : ℕ)
    → (nat_lt 0 address && ((address - 1) == (port + 1))) ≡ (address == port + 2)
behind address port = grind (arith, nat_tests)
