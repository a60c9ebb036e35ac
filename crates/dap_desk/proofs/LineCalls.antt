-- Calls of lines on the stack, byte by byte.
use Rattle.std.proofs.Common.{◌≡◌, ◌∙◌, ◌+◌, ◌-◌, ◌<◌, ◌≤◌, ℕ, suc, Bool, false, true, List, ap, sym, arith}
use Rattle.std.specs.Prelude.{◌||◌}
use Rattle.dap_desk.specs.Onward.{has_line_call, is_line_call}
use Rattle.mon_texts.specs.Pushed.{pushed_at}
use Rattle.source_map.specs.declared.rows.Row.{Row}

module _ (memory : List ℕ) (lines : List Row) where
  -- one byte, and those behind it
  first : (address : ℕ) → address < 512 → has_line_call (512 - address) memory lines address
      ≡ (is_line_call lines (pushed_at memory lines address) || has_line_call (512 - (address + 1)) memory lines (address + 1))
  unfolding has_line_call
  first address within =
      let n = 512 - (address + 1) in
      let some : 512 - address ≡ suc n = omega (arith, within) in
      ap (λ (j : ℕ). has_line_call j memory lines address) some

  pub found : (address : ℕ) (whole : Bool) → whole ≡ has_line_call (512 - address) memory lines address → address < 512
      → is_line_call lines (pushed_at memory lines address) ≡ true → true ≡ whole
  found address whole h within is =
      sym (h ∙ first address within
      ∙ ap (λ (b : Bool). b || has_line_call (512 - (address + 1)) memory lines (address + 1)) is)

  pub further : (address : ℕ) (whole : Bool) → whole ≡ has_line_call (512 - address) memory lines address → address < 512
      → is_line_call lines (pushed_at memory lines address) ≡ false
      → whole ≡ has_line_call (512 - (address + 1)) memory lines (address + 1)
  further address whole h within is =
      h ∙ first address within
      ∙ ap (λ (b : Bool). b || has_line_call (512 - (address + 1)) memory lines (address + 1)) is

  pub nowhere : (address : ℕ) (whole : Bool) → whole ≡ has_line_call (512 - address) memory lines address → 512 ≤ address
      → false ≡ whole
  unfolding has_line_call
  nowhere address whole h past =
      let none : 512 - address ≡ 0 = omega (arith, past) in
      sym (h ∙ ap (λ (j : ℕ). has_line_call j memory lines address) none)
