-- The way back to where a line begins, after some of its events.
use Rattle.std.proofs.Common.{◌≡◌, ℕ, ◌+◌, ◌<◌, Bool, List, length, sym, subst, ◌∙◌}
use Rattle.std.specs.Prelude.{◌&&◌, not, nat_lt, is_some}
use Rattle.model.specs.State.{State}
use Rattle.model.specs.Session.{Session}
use Rattle.model.specs.Back.{without_last}
use Rattle.line_steps.specs.Back.{highest_with, is_line_back, is_return, state_back}
use Rattle.line_steps.specs.Lines.{begun}
use Rattle.line_steps.specs.declared.lines.LineStart.{LineStart}
use Rattle.line_steps.proofs.Returns.{IsHighest, highest_more, left_is}
use Rattle.line_steps.proofs.Ways.{IsBack, back_more, back_state}

-- the highest stack pointer that returns have left, one event more
highest_on : (s : Session) (t u : State) (k highest more : ℕ) (return : Bool) → IsHighest s k highest → t ≡ state_back s k → u ≡ state_back s (k + 1)
    → return ≡ is_return u t → more ≡ highest_with return t.regs.s highest → IsHighest s (k + 1) more
highest_on s t u k highest more return was there before event h =
    let same : return ≡ is_return (state_back s (k + 1)) (state_back s k) = event ∙ (λ i. is_return (before i) (there i)) in
    subst (IsHighest s (k + 1)) (sym (h ∙ (λ i. highest_with (same i) (there i).regs.s highest))) (highest_more s k highest was)

-- whether it is at such a line
line_is : (lines : List LineStart) (s : Session) (t : State) (k highest : ℕ) → t ≡ state_back s k → IsHighest s k highest
    → (is_some (begun lines t) && not (nat_lt t.regs.s highest)) ≡ is_line_back lines s k
line_is lines s t k highest there is =
    let left = left_is s k highest is in
    (λ i. is_some (begun lines (there i)) && not (nat_lt (there i).regs.s highest))
    ∙ (λ i. is_some (begun lines (state_back s k)) && not (left i))

-- where so many events lead back, the highest stack pointer that returns have left, and whether such a line is there
pub record IsThere (lines : List LineStart) (s t : Session) (k stack : ℕ) (line : Bool) : Type 0 where
  pub back : IsBack s t k
  pub highest : IsHighest s k stack
  pub is_line : line ≡ is_line_back lines s k

-- one event more
pub there_on : {lines : List LineStart} {s t u : Session} {k highest more : ℕ} {return line : Bool} → IsBack s t k → IsHighest s k highest
    → 0 < length t.earlier → u ≡ without_last 1 t → return ≡ is_return u.current t.current → more ≡ highest_with return t.current.regs.s highest
    → line ≡ (is_some (begun lines u.current) && not (nat_lt u.current.regs.s more)) → IsThere lines s u (k + 1) more line
there_on {lines} {s} {t} {u} {k} {highest} {more} {return} {line} is was some undone event h at =
    let next = back_more s t u k is some undone in
    let before = back_state s u (k + 1) next in
    let highest_then = highest_on s t.current u.current k highest more return was (back_state s t k is) before event h in
    record { back = next; highest = highest_then; is_line = at ∙ line_is lines s u.current (k + 1) more before highest_then }
