-- The addresses behind base+1.
use Rattle.std.proofs.Common.{◌≡◌, ℕ, ◌+◌, ◌-◌, arith}
use Rattle.std.specs.Prelude.{◌&&◌, ◌==◌, nat_lt}
use Rattle.std.proofs.lemmas.Bool.Decides.{nat_tests}

pub second : (address port : ℕ)
    → (nat_lt 0 address && ((address - 1) == (port + 1))) ≡ (address == port + 2)
second address port = grind (arith, nat_tests)

pub third : (address port : ℕ)
    → (nat_lt 1 address && ((address - 2) == (port + 1))) ≡ (address == port + 3)
third address port = grind (arith, nat_tests)
