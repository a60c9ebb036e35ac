-- A list of breakpoints that is set and told of.
use Rattle.std.proofs.Common.{◌≡◌, ℕ, List, Option}
use Rattle.std.specs.Prelude.{Err, IfOk, Ok, OnOk, Result}
use Rattle.std.specs.declared.alloc.AllocError.{AllocError}
use Rattle.dap_desk.specs.Breaks.{all_cleared, all_set, place_of}
use Rattle.dap_messages.specs.declared.counting.Counting.{Counting}
use Rattle.dap_messages.specs.declared.listed.Placed.{Placed}
use Rattle.dap_messages.specs.SeenAnswers.{answer_view, breakpoints_body}
use Rattle.dap_views.specs.Answered.{answers_of, placed_of}
use Rattle.dap_views.specs.Breaks.{Finds, SetsList}
use Rattle.dap_views.specs.Found.{Found}
use Rattle.dap_views.specs.declared.wanted.List.{List as WantedList}
use Rattle.mon_session.specs.declared.mon_state.MonState.{MonState}
use Rattle.dap_messages.specs.declared.answer.Answer.{Answer}

pub sets_list : {W : Type 0} (find : W → Found) (counting : Counting) (file : Option ℕ) (first : ℕ) (listed : List W)
    (before after : List Placed) (old new : MonState)
    (list : WantedList) (r : Result Answer AllocError)
    → Finds find listed list → OnOk r (after ≡ placed_of file first list.told.items)
    → OnOk r (place_of new ≡ all_set list.stops.items (all_cleared before (place_of old)))
    → IfOk r (λ v. answer_view v ≡ breakpoints_body (answers_of new.session counting first list.told.items))
    → IfOk r (λ v. SetsList find counting file first listed before after old new (answer_view v))
sets_list find counting file first listed before after old new list (Ok v) found held place answer =
    (list.told.items, list.stops.items, found.0, found.1, place, held, answer)
sets_list find counting file first listed before after old new list (Err e) found held place answer = tt

-- what holds of what was made, and what holds if it was made
pub with_both : {V E H : Type 0} (r : Result V E) (P R : V → Type 0) → ((v : V) → P v → H → R v) → IfOk r P → OnOk r H → IfOk r R
with_both (Ok v) P R so p h = so v p h
with_both (Err e) P R so p h = tt
