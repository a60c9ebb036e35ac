-- The way over steps, calls and values that are counted.
use Rattle.std.proofs.Common.{◌≡◌, ◌∙◌, ℕ, zero, suc, ◌+◌, ◌<◌, ◌≤◌, Bool, true, false, List, length, drop, get_or, refl, sym, ap, arith, Option, Some, None, Ok, Err}
use Rattle.std.specs.Borrow.{Bor}
use Rattle.std.specs.Prelude.{◌==◌, if◌then◌else◌, not}
use Rattle.std.proofs.lemmas.Bool.{false≢true}
use Rattle.accesses.specs.Moments.{entered, moment_of}
use Rattle.accesses.specs.Tallies.{Counts, noted}
use Rattle.accesses.specs.declared.moment.Moment.{Moment}
use Rattle.model.specs.Event.{event_of}
use Rattle.model.specs.Session.{Session, with_state}
use Rattle.model.specs.State.{State}
use Rattle.model.specs.declared.event.Event.TheVariants.{Step}
use Rattle.model.specs.declared.event.EventFault.{EventFault}
use Rattle.rig.specs.Subroutine.{return_address}
use Rattle.t65_reader.specs.RowText.{row_seen}
use Rattle.t65_reader.specs.declared.row.Row.{Row}
use Rattle.t65_runner.specs.Counting.{Counted, Part, call_counted, counted_at, counted_in, counted_on, if_returned, is_last, one_counted, rows_counted, steps_counted}
use Rattle.t65_runner.specs.Requests.{is_due_in}
use Rattle.t65_runner.specs.declared.requests.Awaited.{Awaited}
use Rattle.model.specs.Step.{step}
use Rattle.t65_runner.specs.Passes.{rows_seen}
use Rattle.t65_runner.specs.declared.range_values.Values.{Values}
use Rattle.t65_runner.proofs.Firsts.{seen_end, seen_next}

-- What is done after a step.
abbrev pub Next : Type 0
Next = Counted → Part

-- A step leads back.
step_back : (s : Session) (state : State) (counts : Counts) (next : Next) → event_of s.current Step ≡ Ok state → (state.regs.pc == return_address) ≡ true
    → counted_on (counted_at s counts) next (step s.current) ≡ (None, one_counted (counted_at s counts) state)
unfolding event_of
step_back s state counts next made back = rw (made, back) refl

-- A step leads on.
step_on : (s : Session) (state : State) (counts : Counts) (next : Next) → event_of s.current Step ≡ Ok state → (state.regs.pc == return_address) ≡ false
    → counted_on (counted_at s counts) next (step s.current) ≡ next (one_counted (counted_at s counts) state)
unfolding event_of
step_on s state counts next made on = rw (made, on) refl

-- A step is rejected.
pub step_rejected : (s t : Session) (fault : EventFault) (counts : Counts) (next : Next) → event_of s.current Step ≡ Err fault → t ≡ s
    → counted_on (counted_at s counts) next (step s.current) ≡ (None, counted_at t counts)
unfolding event_of
step_rejected s t fault counts next rejected is = rw (rejected, is) refl

noted_step : (s t : Session) (state : State) (before : Moment) (counts new : Counts) → t ≡ with_state s state → before ≡ moment_of s.current
    → new ≡ (if entered before t.current then counts else noted counts before.regs.pc 0) → one_counted (counted_at s counts) state ≡ counted_at t new
noted_step s t state before counts new is moment told = rw (told, moment, is) refl

not_false : (b : Bool) → not b ≡ false → b ≡ true
not_false true h = refl
not_false false h = absurd (false≢true (sym h))

not_true : (b : Bool) → not b ≡ true → b ≡ false
not_true true h = absurd (false≢true h)
not_true false h = refl

same_place : (s t : Session) (state : State) → t ≡ with_state s state → (state.regs.pc == return_address) ≡ (t.current.regs.pc == return_address)
same_place s t state is = ap (λ (u : Session). u.current.regs.pc == return_address) (sym is)

-- The call goes on after a step.
pub goes_on : (s t : Session) (state : State) (before : Moment) (counts new : Counts) (back : Bool) (next : Next) → event_of s.current Step ≡ Ok state
    → t ≡ with_state s state → before ≡ moment_of s.current
    → new ≡ (if entered before t.current then counts else noted counts before.regs.pc 0) → back ≡ (t.current.regs.pc == return_address) → not back ≡ true
    → counted_on (counted_at s counts) next (step s.current) ≡ next (counted_at t new)
goes_on s t state before counts new back next made is moment told back_is on =
    step_on s state counts next made (same_place s t state is ∙ (sym back_is ∙ not_true back on))
    ∙ ap next (noted_step s t state before counts new is moment told)

-- The call ends with a step.
pub ends : (s t : Session) (state : State) (before : Moment) (counts new : Counts) (back : Bool) (next : Next) → event_of s.current Step ≡ Ok state
    → t ≡ with_state s state → before ≡ moment_of s.current
    → new ≡ (if entered before t.current then counts else noted counts before.regs.pc 0) → back ≡ (t.current.regs.pc == return_address) → not back ≡ false
    → counted_on (counted_at s counts) next (step s.current) ≡ (None, counted_at t new)
ends s t state before counts new back next made is moment told back_is on =
    step_back s state counts next made (same_place s t state is ∙ (sym back_is ∙ not_false back on))
    ∙ ap (λ (c : Counted). (None, c)) (noted_step s t state before counts new is moment told)

module _ (awaited : Option Awaited) (c : Counted) where
  -- An interrupt is due.
  pub comes : (n m : ℕ) → n ≡ m + 1 → is_due_in awaited c.session.current ≡ true → steps_counted awaited n c ≡ (Some m, c)
  unfolding steps_counted
  comes zero m e due = absurd (omega arith)
  comes (suc n) m e due =
      let same : n ≡ m = omega arith in
      rw (due, same) refl

  -- None is due, so a step is made.
  pub waits : (n m : ℕ) → n ≡ m + 1 → is_due_in awaited c.session.current ≡ false
      → steps_counted awaited n c ≡ counted_on c (steps_counted awaited m) (step c.session.current)
  unfolding steps_counted
  waits zero m e due = absurd (omega arith)
  waits (suc n) m e due =
      let same : n ≡ m = omega arith in
      rw (due, same) refl

  pub no_step : (n : ℕ) → n ≡ 0 → steps_counted awaited n c ≡ (None, c)
  unfolding steps_counted
  no_step zero e = refl
  no_step (suc n) e = absurd (omega arith)

-- ---- calls

chosen : (b : Bool) (x y : Counts) → b ≡ true → (if b then x else y) ≡ x
chosen b x y h = rw h refl

not_chosen : (b : Bool) (x y : Counts) → b ≡ false → (if b then x else y) ≡ y
not_chosen b x y h = rw h refl

module _ (values : Values) (rows : List (Bor (ℕ × Row))) (i : ℕ) (s : Session) (counts : Counts) where
  abbrev rest : Counted → Counts
  rest c = rows_counted values (drop (i + 1) (rows_seen rows)) c

  call-next : (row : Bor (ℕ × Row)) → i < length rows → row ≡ get_or rows i row
      → rows_counted values (drop i (rows_seen rows)) (counted_at s counts)
      ≡ if_returned counts rest (call_counted values (row_seen row).1.call (counted_at s counts))
  unfolding rows_counted
  call-next row h is = rw (seen_next rows i row h is) refl

  -- The next call is not made.
  pub unmade : (row : Bor (ℕ × Row)) (whole : Counts) → i < length rows → row ≡ get_or rows i row
      → call_counted values (row_seen row).1.call (counted_at s counts) ≡ None
      → rows_counted values (drop i (rows_seen rows)) (counted_at s counts) ≡ whole → counts ≡ whole
  unmade row whole h is none left = sym (call-next row h is ∙ ap (λ (c : Option Counted). if_returned counts rest c) none) ∙ left

  -- The next call does not return.
  pub stuck : (row : Bor (ℕ × Row)) (t : Session) (new whole : Counts) → i < length rows → row ≡ get_or rows i row
      → call_counted values (row_seen row).1.call (counted_at s counts) ≡ Some (counted_at t new)
      → (t.current.regs.pc == return_address) ≡ false → rows_counted values (drop i (rows_seen rows)) (counted_at s counts) ≡ whole → new ≡ whole
  stuck row t new whole h is made off left =
      sym (call-next row h is ∙ (ap (λ (c : Option Counted). if_returned counts rest c) made
      ∙ not_chosen (t.current.regs.pc == return_address) (rest (counted_at t new)) new off)) ∙ left

  -- The next call returns.
  pub returned : (row : Bor (ℕ × Row)) (t : Session) (new whole : Counts) → i < length rows → row ≡ get_or rows i row
      → call_counted values (row_seen row).1.call (counted_at s counts) ≡ Some (counted_at t new)
      → (t.current.regs.pc == return_address) ≡ true → rows_counted values (drop i (rows_seen rows)) (counted_at s counts) ≡ whole
      → rows_counted values (drop (i + 1) (rows_seen rows)) (counted_at t new) ≡ whole
  returned row t new whole h is made back left =
      sym (call-next row h is ∙ (ap (λ (c : Option Counted). if_returned counts rest c) made
      ∙ chosen (t.current.regs.pc == return_address) (rest (counted_at t new)) new back)) ∙ left

  pub no_call : length rows ≤ i → rows_counted values (drop i (rows_seen rows)) (counted_at s counts) ≡ counts
  unfolding rows_counted
  no_call h = rw (seen_end rows i h) refl

-- ---- values

module _ (at : ℕ → Values) (one last : Values → Counts → Counts) (failed : Option Values) where
  pub last_values : (n m k : ℕ) (counts : Counts) → n ≡ m + 1 → is_last failed (at k) ≡ true → counted_in at one last failed n k counts ≡ last (at k) counts
  unfolding counted_in
  last_values zero m k counts e h = absurd (omega arith)
  last_values (suc n) m k counts e h = rw h refl

  pub next_values : (n m k : ℕ) (counts : Counts) → n ≡ m + 1 → is_last failed (at k) ≡ false
      → counted_in at one last failed m (k + 1) (one (at k) counts) ≡ counted_in at one last failed n k counts
  unfolding counted_in
  next_values zero m k counts e h = absurd (omega arith)
  next_values (suc n) m k counts e h =
      let same : n ≡ m = omega arith in
      rw (h, same) refl

  pub no_values : (n k : ℕ) (counts : Counts) → n ≡ 0 → counted_in at one last failed n k counts ≡ counts
  unfolding counted_in
  no_values zero k counts e = refl
  no_values (suc n) k counts e = absurd (omega arith)
