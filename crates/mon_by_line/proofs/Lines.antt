-- Runs to a line, after some of their steps.
use Rattle.std.proofs.Common.{◌≡◌, ℕ, ◌+◌, ◌-◌, ◌<◌, ◌≤◌, suc, Bool, true, false, cond, List, Option, Some, None, Result, Ok, Err, refl, sym, ap, subst, ◌∙◌, arith}
use Rattle.std.specs.Prelude.{◌&&◌, is_some, not, unwrap_or}
use Rattle.std.specs.Option.{option_map, option_or}
use Rattle.model.specs.State.{State}
use Rattle.model.specs.Session.{Session}
use Rattle.model.specs.Step.{entry_due, step}
use Rattle.model.specs.Run.{after_run, after_steps, run_end, stop_of}
use Rattle.model.specs.declared.event.EventFault.{EventFault}
use Rattle.model.specs.declared.run_end.RunEnd.{RunEnd}
use Rattle.accesses.specs.Access.{access_here}
use Rattle.cpu_step.specs.PlainSteps.{stays}
use Rattle.cpu_step.specs.declared.access.Access.{Access}
use Rattle.debugger.proofs.Runs.{run_refused}
use Rattle.law_sessions.proofs.Runs.{after_steps-zero}
use Rattle.line_steps.specs.Forwards.{is_line_on}
use Rattle.line_steps.specs.Lines.{begun, is_other}
use Rattle.line_steps.specs.Numbers.{first_or_last, first_to}
use Rattle.line_steps.specs.declared.lines.FileLine.{FileLine}
use Rattle.line_steps.specs.declared.lines.LineStart.{LineStart}
use Rattle.line_steps.proofs.Calling.{IsCall}
use Rattle.line_steps.proofs.LineRuns.{line_is}
use Rattle.line_steps.proofs.Counted.{NoneTo, first_at, first_beyond, first_none}
use Rattle.line_steps.proofs.Steps.{made_at_most}
use Rattle.mon_runs.specs.Ends.{is_end}
use Rattle.mon_by_line.specs.LineRuns.{arrived_by, line_run, or_line}
use Rattle.mon_runs.specs.Looked.{Arrival, Place, after_stretch, changed_between, end_between, if_changed, if_read, if_stored, later, looked_run, pushed_at, seen_between, watched, watched_from, why_of_step}
use Rattle.mon_runs.specs.Rests.{has_no_handler, rest_between, waits}
use Rattle.mon_runs.specs.Stops.{Read, Write, has_access, register_change}
use Rattle.mon_runs.specs.declared.changes.RegisterChange.{RegisterChange}
use Rattle.mon_runs.specs.declared.ended.EndWhy.{EndWhy}
use Rattle.mon_runs.specs.declared.ended.EndWhy.TheVariants as end_why
use Rattle.mon_runs.specs.declared.looked.Goal.TheVariants.{Rest}
use Rattle.mon_runs.specs.declared.watches.Watch.{Watch}
use Rattle.mon_runs.proofs.Counts.{steps_more}
use Rattle.mon_runs.proofs.LookedRuns.{looked-begin, looked-ends, looked-goes, looked-over}

-- ---- no step ends a run because it made as many as a run makes at most

abbrev is_many : EndWhy → Bool
is_many end_why.Many = true
is_many end_why.Met = false
is_many (end_why.Stopped why) = false
is_many (end_why.Read address) = false
is_many (end_why.Written address) = false
is_many (end_why.Changed change) = false
is_many end_why.Stuck = false
is_many end_why.NoHandler = false
is_many end_why.Waits = false

or_line_few : (why : EndWhy) (is : Bool) → is_many why ≡ false → or_line why is ≡ why
or_line_few end_why.Many true h = cc
or_line_few end_why.Many false h = refl
or_line_few end_why.Met is h = refl
or_line_few (end_why.Stopped why) is h = refl
or_line_few (end_why.Read address) is h = refl
or_line_few (end_why.Written address) is h = refl
or_line_few (end_why.Changed change) is h = refl
or_line_few end_why.Stuck is h = refl
or_line_few end_why.NoHandler is h = refl
or_line_few end_why.Waits is h = refl

abbrev IsFew : Option EndWhy → Type 0
IsFew reason = (why : EndWhy) → reason ≡ Some why → is_many why ≡ false

few_none : IsFew None
few_none why h = cc

few_some : (reason : EndWhy) → is_many reason ≡ false → IsFew (Some reason)
few_some reason few why h = let same : reason ≡ why = cc in ap is_many (sym same) ∙ few

few_or : (a b : Option EndWhy) → IsFew a → IsFew b → IsFew (option_or a b)
few_or (Some x) b first other = first
few_or None b first other = other

few_if : (is : Bool) (a b : Option EndWhy) → IsFew a → IsFew b → IsFew (cond is a b)
few_if true a b first other = first
few_if false a b first other = other

few_read : (w : List Watch) (at : Option ℕ) → IsFew (if_read w at)
few_read w None = few_none
few_read w (Some at) =
    few_if (has_access Read at w) (Some (end_why.Read at)) None (few_some (end_why.Read at) refl) few_none

few_stored : (w : List Watch) (at : Option ℕ) → IsFew (if_stored w at)
few_stored w None = few_none
few_stored w (Some at) =
    few_if (has_access Write at w) (Some (end_why.Written at)) None (few_some (end_why.Written at) refl) few_none

few_pushed : (at : Option ℕ) → IsFew (option_map end_why.Written at)
few_pushed None = few_none
few_pushed (Some at) = few_some (end_why.Written at) refl

few_watched : (w : List Watch) (access : Access) (stack : ℕ) → IsFew (watched w access stack)
few_watched w access stack =
    let pushed = option_map end_why.Written (pushed_at w stack 0 access.pushes) in
    few_or (if_read w access.read) (option_or (if_stored w access.store) pushed) (few_read w access.read)
    (few_or (if_stored w access.store) pushed (few_stored w access.store) (few_pushed (pushed_at w stack 0 access.pushes)))

few_from : (w : List Watch) (before : State) → IsFew (watched_from w before)
few_from w before =
    few_if (entry_due before) None (watched w (access_here before) before.regs.s) few_none
    (few_watched w (access_here before) before.regs.s)

few_changed : (change : Option RegisterChange) → IsFew (if_changed change)
few_changed None = few_none
few_changed (Some change) = few_some (end_why.Changed change) refl

few_seen : (w : List Watch) (before after : State) → IsFew (seen_between w before after)
few_seen w before after =
    few_or (watched_from w before) (changed_between w before after) (few_from w before)
    (few_changed (register_change w before.regs after.regs))

few_rest : (before after : State) → IsFew (rest_between before after)
few_rest before after =
    let none : Option EndWhy = None in
    let waiting = cond (waits after) (Some end_why.Waits) none in
    few_if (stays before.regs after.regs) (Some end_why.Stuck) (cond (has_no_handler after) (Some end_why.NoHandler) waiting)
    (few_some end_why.Stuck refl)
    (few_if (has_no_handler after) (Some end_why.NoHandler) waiting (few_some end_why.NoHandler refl)
    (few_if (waits after) (Some end_why.Waits) none (few_some end_why.Waits refl) few_none))

few_step : (w : List Watch) (p : Place) → IsFew (why_of_step w Rest None p)
few_step w p =
    let after = (after_run 1 p.0).current in
    let why = (run_end 1 p.0).why in
    few_if (is_end None why after p.1) (Some (end_why.Stopped why)) (end_between w Rest p.0.current after)
    (few_some (end_why.Stopped why) refl)
    (few_or (seen_between w p.0.current after) (rest_between p.0.current after) (few_seen w p.0.current after) (few_rest p.0.current after))

-- ---- a step that ends no run was made

not_none : (is : Bool) (why : EndWhy) (other : Option EndWhy) (n : ℕ) → is ≡ true → cond is (Some why) other ≡ None → n ≡ 1
not_none true why other n h none = cc
not_none false why other n h none = cc

made_by : (w : List Watch) (p : Place) (r : Result State EventFault) → step p.0.current ≡ r → why_of_step w Rest None p ≡ None
    → (run_end 1 p.0).did ≡ 1
made_by w p (Ok t) h none = made_at_most p.0 t (stop_of p.0 p.0.current t) h refl
made_by w p (Err fault) h none =
    let after = (after_run 1 p.0).current in
    let why = (run_end 1 p.0).why in
    let refused : is_end None why after p.1 ≡ true
    = ap (λ (e : RunEnd). is_end None e.why after p.1) (run_refused 1 p.0 fault (omega arith) h) in
    not_none (is_end None why after p.1) (end_why.Stopped why) (end_between w Rest p.0.current after) (run_end 1 p.0).did refused none

one_made : (w : List Watch) (p : Place) → why_of_step w Rest None p ≡ None → (run_end 1 p.0).did ≡ 1
one_made w p none = made_by w p (step p.0.current) refl none

-- ---- a run after some steps that did not end it

pub record IsOn (w : List Watch) (p q : Place) (k : ℕ) : Type 0 where
  pub made : q.0 ≡ after_steps k p.0
  pub left : (n : ℕ) → k ≤ n → looked_run w Rest None n p ≡ later k (looked_run w Rest None (n - k) q)

pub on_begin : (w : List Watch) (p : Place) → IsOn w p p 0
on_begin w p = record {
  made = sym (after_steps-zero step p.0);
  left = λ n h. looked-begin w Rest None n p;
}

-- what a step was, and where it led
pub record IsStep (w : List Watch) (q r : Place) (d f : ℕ) (y : Option EndWhy) : Type 0 where
  pub did : d ≡ (run_end 1 q.0).did
  pub from : f ≡ q.0.current.regs.pc
  pub why : y ≡ why_of_step w Rest None q
  pub after : r ≡ after_stretch None 1 q
  pub steps : r.0 ≡ after_steps d q.0

pub one : {w : List Watch} {q r : Place} {d f : ℕ} {y : Option EndWhy} → IsStep w q r d f y → y ≡ None → d ≡ 1
one {w} {q} {r} {d} {f} {y} is none = is.did ∙ one_made w q (sym is.why ∙ none)

pub on_more : {w : List Watch} {p q r : Place} {k d f : ℕ} {y : Option EndWhy} → IsOn w p q k → IsStep w q r d f y → y ≡ None
    → IsOn w p r (k + 1)
on_more {w} {p} {q} {r} {k} {d} {f} {y} on is none =
    let single : d ≡ 1 = one is none in
    record {
      made = steps_more k 1 p.0 q.0 r.0 on.made (is.steps ∙ ap (λ j. after_steps j q.0) single);
      left = λ n h.
          let before : k ≤ n = omega (arith, h) in
          let more : n - k ≡ suc (n - (k + 1)) = omega (arith, h) in
          looked-goes w Rest None (n - k) (n - (k + 1)) k d f q r y (looked_run w Rest None n p) (on.left n before) more
          is.did is.from is.why is.after none
          ∙ ap (λ j. later (k + j) (looked_run w Rest None (n - (k + 1)) r)) single;
    }

-- ---- whether it is at a line

and_turned : (a b : Bool) → (a && b) ≡ (b && a)
and_turned true true = refl
and_turned true false = refl
and_turned false true = refl
and_turned false false = refl

pub at_line : (lines : List LineStart) (line : Option FileLine) (s t : Session) (k : ℕ) (call : Option ℕ) (is : Bool) → t ≡ after_steps k s
    → IsCall s k call → is ≡ (not (is_some call) && is_other line (begun lines t.current)) → is ≡ is_line_on lines line s k
at_line lines line s t k call is made within h =
    h ∙ and_turned (not (is_some call)) (is_other line (begun lines t.current)) ∙ line_is lines line s t k call made within

-- where the step of a number led: on the way, within a call or not, and at a line or not
pub record IsNext (lines : List LineStart) (line : Option FileLine) (w : List Watch) (p r : Place) (k : ℕ) (within : Option ℕ) (is : Bool) : Type 0 where
  pub on : IsOn w p r k
  pub call : IsCall p.0 k within
  pub at : is ≡ is_line_on lines line p.0 k

-- ---- how it ends

module _ (lines : List LineStart) (line : Option FileLine) (limit : ℕ) (w : List Watch) (p : Place) where
  pub ends_stopped : {q r : Place} {k d f : ℕ} {y : Option EndWhy} (why : EndWhy) (total : ℕ) → IsOn w p q k → IsStep w q r d f y
      → NoneTo (is_line_on lines line p.0) k → k < limit → total ≡ k + d → y ≡ Some why
      → line_run lines line limit w p ≡ (record { did = total; why = why; from = Some f }, r)
  unfolding line_run
  ends_stopped {q} {r} {k} {d} {f} {y} why total on is none within sum some =
      let has = is_line_on lines line p.0 in
      let n = first_or_last limit has in
      let beyond : k < n = first_beyond limit has k none within in
      let before : k ≤ n = omega (arith, beyond) in
      let more : n - k ≡ suc (n - (k + 1)) = omega (arith, beyond) in
      let found = is_some (first_to limit has) in
      let few = or_line_few why found (few_step w q why (sym is.why ∙ some)) in
      ap (arrived_by found) (looked-ends w Rest None (n - k) (n - (k + 1)) k d f q r why y (looked_run w Rest None n p)
      (on.left n before) more is.did is.from is.why is.after some)
      ∙ (λ i. (record { did = sym sum i; why = few i; from = Some f }, r))

  pub ends_met : {r : Place} {k : ℕ} (total : ℕ) → IsOn w p r (k + 1) → NoneTo (is_line_on lines line p.0) k → k < limit
      → is_line_on lines line p.0 (k + 1) ≡ true → total ≡ k + 1
      → line_run lines line limit w p ≡ (record { did = total; why = end_why.Met; from = None }, r)
  unfolding line_run
  ends_met {r} {k} total on none within here sum =
      let has = is_line_on lines line p.0 in
      let next : suc k ≡ k + 1 = omega arith in
      let some : suc k ≤ limit = omega (arith, within) in
      let all : k + 1 ≤ suc k = omega arith in
      let over : suc k - (k + 1) ≡ 0 = omega arith in
      let found = first_at limit has k none (ap has next ∙ here) some in
      ap (λ (x : Option ℕ). arrived_by (is_some x) (looked_run w Rest None (unwrap_or x limit) p)) found
      ∙ ap (arrived_by true) (looked-over w Rest None (suc k - (k + 1)) (k + 1) r (looked_run w Rest None (suc k) p) (on.left (suc k) all) over)
      ∙ (λ i. (record { did = sym sum i; why = end_why.Met; from = None }, r))

  pub ends_last : {q : Place} {k : ℕ} (total : ℕ) → IsOn w p q k → NoneTo (is_line_on lines line p.0) k → k ≡ limit → total ≡ k
      → line_run lines line limit w p ≡ (record { did = total; why = end_why.Many; from = None }, q)
  unfolding line_run
  ends_last {q} {k} total on none last sum =
      let has = is_line_on lines line p.0 in
      let all : k ≤ limit = omega (arith, last) in
      let over : limit - k ≡ 0 = omega (arith, last) in
      let found = first_none limit has (subst (NoneTo has) last none) in
      ap (λ (x : Option ℕ). arrived_by (is_some x) (looked_run w Rest None (unwrap_or x limit) p)) found
      ∙ ap (arrived_by false) (looked-over w Rest None (limit - k) k q (looked_run w Rest None limit p) (on.left limit all) over)
      ∙ (λ i. (record { did = sym sum i; why = end_why.Many; from = None }, q))
