-- Bytes that can be written, one after another.
use Rattle.std.proofs.Common.{◌≡◌, ◌∙◌, ℕ, ◌+◌, ◌-◌, ◌<◌, ◌≤◌, ◌&&◌, Bool, true, false, List, [], ◌∷◌, length, drop, get_or, nat_le, not, refl, sym, ap, add-one, arith, drop-cons}
use Rattle.std.proofs.lemmas.Bool.Decides.{nat_tests}
use Rattle.std.proofs.lemmas.List.{drop_all}
use Rattle.std.specs.Prelude.{◌||◌}
use Rattle.dap_session.specs.Changes.{can_write}
use Rattle.model.specs.Event.{meets_port}
use Rattle.model.specs.State.{Map, is_port}

module _ (map : Map) (address : ℕ) (bytes : List ℕ) where
  abbrev left : ℕ → Bool
  left i = meets_port map (address + i) (drop i bytes)

  here : (i : ℕ) → i < length bytes → left i ≡ (is_port map (address + i) || left (i + 1))
  here i within =
      let cut : drop i bytes ≡ get_or bytes i 0 ∷ drop (i + 1) bytes = rw add-one (drop-cons bytes i 0 within) in
      let next : (address + i) + 1 ≡ address + (i + 1) = omega arith in
      ap (meets_port map (address + i)) cut ∙ ap (λ (a : ℕ). is_port map (address + i) || meets_port map a (drop (i + 1) bytes)) next

  pub not_here : (i : ℕ) → i < length bytes → is_port map (address + i) ≡ false → meets_port map address bytes ≡ left i
      → meets_port map address bytes ≡ left (i + 1)
  not_here i within clear so_far = so_far ∙ here i within ∙ ap (λ (b : Bool). b || left (i + 1)) clear

  neither : (b : Bool) → (b && false) ≡ false
  neither true = refl
  neither false = refl

  pub at_port : (i : ℕ) → i < length bytes → is_port map (address + i) ≡ true → meets_port map address bytes ≡ left i → false ≡ can_write map address bytes
  at_port i within met so_far =
      let meets : meets_port map address bytes ≡ true = so_far ∙ here i within ∙ ap (λ (b : Bool). b || left (i + 1)) met in
      sym (ap (λ (b : Bool). nat_le (length bytes) (65536 - address) && not b) meets ∙ neither (nat_le (length bytes) (65536 - address)))

  pub nowhere : (i : ℕ) → length bytes ≤ i → length bytes ≤ 65536 - address → meets_port map address bytes ≡ left i → true ≡ can_write map address bytes
  nowhere i past fits so_far =
      let none : meets_port map address bytes ≡ false = so_far ∙ ap (meets_port map (address + i)) (drop_all i bytes past) in
      let room : nat_le (length bytes) (65536 - address) ≡ true = grind (arith, nat_tests) in
      sym ((λ j. room j && not (none j)))

  pub too_many : 65536 - address < length bytes → false ≡ can_write map address bytes
  too_many many =
      let room : nat_le (length bytes) (65536 - address) ≡ false = grind (arith, nat_tests) in
      sym (ap (λ (b : Bool). b && not (meets_port map address bytes)) room)
