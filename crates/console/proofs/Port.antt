-- The port's addresses, and what is known of the input.
use Rattle.std.proofs.Common.{◌≡◌, ◌≢◌, ℕ, suc, ◌+◌, ◌%◌, ◌<◌, ◌≤◌, true, false, length, Option, refl, sym, ◌∙◌, arith, inl, inr}
use Rattle.std.specs.Prelude.{◌&&◌, ◌==◌, nat_le, nat_lt}
use Rattle.std.proofs.lemmas.Bool.Decides.{eqb_tells, leb_tells, nat_tests}
use Rattle.model.specs.State.{Map, Bus, is_map, is_port, input_waits}

-- a port's base is a multiple of four
base_whole : (rom : Option (ℕ × ℕ)) (port : ℕ) → is_map rom port ≡ true → port % 4 ≡ 0
unfolding is_map
base_whole rom port e = grind (arith, nat_tests)

rest_of : (address port k : ℕ) → address ≡ port + k → port % 4 ≡ 0 → k < 4 → address % 4 ≡ k
rest_of address port k e whole few = omega arith

same_place : (address port k : ℕ) → port ≤ address → address < port + 4 → port % 4 ≡ 0 → address % 4 ≡ k → address ≡ port + k
same_place address port k low high whole rest = omega arith

here : (address port k : ℕ) → address ≡ port + k → k < 4 → (address % 4) ≡ k
    → (nat_le port address && nat_lt address (port + 4) && (address % 4 == k)) ≡ true
here address port k e few rest = grind (arith, nat_tests)

away : (address port k : ℕ) → address ≢ port + k → port % 4 ≡ 0
    → (nat_le port address && nat_lt address (port + 4) && (address % 4 == k)) ≡ false
away address port k e whole = elim (leb_tells port address) [
  | inr low ↦ rw low.0 refl
  | inl low ↦ elim (leb_tells (suc address) (port + 4)) [
    | inr high ↦ rw (low.0, high.0) refl
    | inl high ↦ elim (eqb_tells (address % 4) k) [
      | inr rest ↦ rw (low.0, high.0, rest.0) refl
      | inl rest ↦ absurd (e (same_place address port k low.1 high.1 whole rest.1))
    ]
  ]
]

-- an address of the port by its rest modulo four
pub at_offset : (map : Map) (address k : ℕ) → is_map map.rom map.port ≡ true → k < 4
    → (is_port map address && (address % 4 == k)) ≡ (address == map.port + k)
unfolding is_port
at_offset map address k is few = elim (eqb_tells address (map.port + k)) [
  | inl e ↦ here address map.port k e.1 few (rest_of address map.port k e.1 (base_whole map.rom map.port is) few) ∙ sym e.0
  | inr e ↦ away address map.port k e.1 (base_whole map.rom map.port is) ∙ sym e.0
]

pub waits_some : (bus : Bus) (n : ℕ) → bus.taken + n ≡ length bus.given → input_waits bus ≡ nat_lt 0 n
waits_some bus n e = grind (arith, nat_tests)
