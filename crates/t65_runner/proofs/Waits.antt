-- The way over the steps of a call that an interrupt comes into.
use Rattle.std.proofs.Common.{◌≡◌, ◌∙◌, ℕ, zero, suc, ◌+◌, true, false, refl, sym, ap, arith, Ok, Err}
use Rattle.std.specs.Prelude.{◌==◌}
use Rattle.model.specs.Event.{event_of}
use Rattle.model.specs.Session.{Session, with_state}
use Rattle.model.specs.State.{State}
use Rattle.model.specs.Step.{step}
use Rattle.model.specs.declared.event.Event.TheVariants.{Step}
use Rattle.model.specs.declared.event.EventFault.{EventFault}
use Rattle.model.specs.declared.run_end.Why.TheVariants.{Break, Limit, Refused}
use Rattle.rig.specs.Subroutine.{return_address}
use Rattle.t65_runner.specs.Requests.{is_due, waited, waited_on}
use Rattle.t65_runner.specs.declared.requests.Awaited.{Awaited}
use Rattle.t65_runner.specs.declared.requests.Wait.{Wait}
use Rattle.t65_runner.specs.declared.requests.Wait.TheVariants.{Due, Ended}

-- What is done with the session after a step.
abbrev pub Next : Type 0
Next = Session → Wait × Session

same_place : (s t : Session) (state : State) → t ≡ with_state s state → (state.regs.pc == return_address) ≡ (t.current.regs.pc == return_address)
same_place s t state is = ap (λ (u : Session). u.current.regs.pc == return_address) (sym is)

back_on : (did : ℕ) (s : Session) (state : State) (next : Next) → event_of s.current Step ≡ Ok state → (state.regs.pc == return_address) ≡ true
    → waited_on did s next (step s.current) ≡ (Ended (record { did = did + 1; why = Break return_address }), with_state s state)
unfolding event_of
back_on did s state next made back = rw (made, back) refl

goes_on : (did : ℕ) (s : Session) (state : State) (next : Next) → event_of s.current Step ≡ Ok state → (state.regs.pc == return_address) ≡ false
    → waited_on did s next (step s.current) ≡ next (with_state s state)
unfolding event_of
goes_on did s state next made on = rw (made, on) refl

-- A step leads back.
pub leads_back : (did : ℕ) (s t : Session) (state : State) (next : Next) → event_of s.current Step ≡ Ok state → t ≡ with_state s state
    → (t.current.regs.pc == return_address) ≡ true
    → waited_on did s next (step s.current) ≡ (Ended (record { did = did + 1; why = Break return_address }), t)
leads_back did s t state next made is back =
    back_on did s state next made (same_place s t state is ∙ back)
    ∙ ap (λ (u : Session). (Ended (record { did = did + 1; why = Break return_address }), u)) (sym is)

-- A step leads on.
pub leads_on : (did : ℕ) (s t : Session) (state : State) (next : Next) → event_of s.current Step ≡ Ok state → t ≡ with_state s state
    → (t.current.regs.pc == return_address) ≡ false
    → waited_on did s next (step s.current) ≡ next t
leads_on did s t state next made is on = goes_on did s state next made (same_place s t state is ∙ on) ∙ ap next (sym is)

-- A step is rejected.
pub is_rejected : (did : ℕ) (s t : Session) (fault : EventFault) (next : Next) → event_of s.current Step ≡ Err fault → t ≡ s
    → waited_on did s next (step s.current) ≡ (Ended (record { did = did; why = Refused fault }), t)
unfolding event_of
is_rejected did s t fault next rejected is = rw (rejected, is) refl

module _ (awaited : Awaited) (did : ℕ) (s : Session) where
  -- The interrupt is due.
  pub comes : (n m : ℕ) → n ≡ m + 1 → is_due awaited s.current ≡ true → waited awaited did n s ≡ (Due did, s)
  unfolding waited
  comes zero m e due = absurd (omega arith)
  comes (suc n) m e due = rw due refl

  -- The interrupt is not due, so a step is made.
  pub waits : (n m : ℕ) → n ≡ m + 1 → is_due awaited s.current ≡ false
      → waited awaited did n s ≡ waited_on did s (waited awaited (did + 1) m) (step s.current)
  unfolding waited
  waits zero m e due = absurd (omega arith)
  waits (suc n) m e due =
      let same : n ≡ m = omega arith in
      rw (due, same) refl

  pub no_step_left : (n : ℕ) → n ≡ 0 → waited awaited did n s ≡ (Ended (record { did = did; why = Limit }), s)
  unfolding waited
  no_step_left zero e = refl
  no_step_left (suc n) e = absurd (omega arith)
