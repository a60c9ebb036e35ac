-- A run goes on from where its first steps led.
use Rattle.std.proofs.Common.{◌≡◌, ℕ, ◌+◌, ◌-◌, ◌<◌, zero, suc, List, Option, Some, None, Ok, Err, refl, sym, ap, ◌∙◌, arith}
use Rattle.std.specs.Prelude.{nat_eq, if◌then◌else◌}
use Rattle.std.specs.List.{list_any}
use Rattle.std.specs.Option.{option_or}
use Rattle.model.specs.State.{Bus, State}
use Rattle.model.specs.Step.{step}
use Rattle.model.specs.Event.{event_of}
use Rattle.model.specs.declared.event.Event.TheVariants.{Step}
use Rattle.model.specs.Session.{Session, with_state}
use Rattle.model.specs.declared.event.EventFault.{EventFault}
use Rattle.model.specs.declared.run_end.Why.{Why}
use Rattle.model.specs.declared.run_end.Why.TheVariants.{Break, Limit, Refused}
use Rattle.model.specs.declared.run_end.RunEnd.{RunEnd}
use Rattle.model.specs.Run.{run_end, after_steps, stop_of, one_later, watch_met, break_met}
use Rattle.model.specs.Undo.{CanRestore, bus_before, state_before, Undoes}
use Rattle.model.specs.declared.undo.Change.{Change}
use Rattle.model.specs.declared.undo.Undo.{Undo}
use Rattle.debugger.specs.Running.{beyond, end_at}
use Rattle.debugger.specs.Stops.{stop_after}
use Rattle.law_sessions.proofs.Runs.{ends_with, run_end-zero, run_end-made, run_end-refused, after_steps-zero, after_steps-made, after_steps-add}

pub beyond-end : (k did n : ℕ) (why : Why) → k + did ≡ n → beyond k (end_at did why) ≡ end_at n why
beyond-end k did n why e = λ i. record { did = e i; why = why }

pub beyond-later : (k : ℕ) (e : RunEnd) → beyond k (one_later e) ≡ beyond (k + 1) e
beyond-later k e = let z : k + suc e.did ≡ k + 1 + e.did = omega arith in λ i. record { did = z i; why = e.why }

-- a run of which some steps are left, by its first step
pub run_made : (n : ℕ) (s : Session) (t : State) (why : Option Why) → 0 < n → step s.current ≡ Ok t → why ≡ stop_of s s.current t
    → run_end n s ≡ ends_with why (run_end (n - 1) (with_state s t))
unfolding stop_of
run_made zero s t why h made stop = absurd (omega arith)
run_made (suc n) s t why h made stop =
    let z : n ≡ suc n - 1 = omega arith in
    run_end-made step n s t made ∙ ap (λ m. ends_with (stop_of s s.current t) (run_end m (with_state s t))) z
    ∙ ap (λ w. ends_with w (run_end (suc n - 1) (with_state s t))) (sym stop)

pub run_stops : (n : ℕ) (s : Session) (t : State) (why : Why) → 0 < n → step s.current ≡ Ok t → Some why ≡ stop_of s s.current t → run_end n s ≡ end_at 1 why
run_stops n s t why h made stop = run_made n s t (Some why) h made stop

pub run_goes : (n : ℕ) (s : Session) (t : State) → 0 < n → step s.current ≡ Ok t → None ≡ stop_of s s.current t
    → run_end n s ≡ one_later (run_end (n - 1) (with_state s t))
run_goes n s t h made stop = run_made n s t None h made stop

pub run_refused : (n : ℕ) (s : Session) (f : EventFault) → 0 < n → step s.current ≡ Err f → run_end n s ≡ end_at 0 (Refused f)
run_refused zero s f h fault = absurd (omega arith)
run_refused (suc n) s f h fault = run_end-refused step n s f fault

pub run_none : (n : ℕ) (s : Session) → n ≡ 0 → run_end n s ≡ end_at 0 Limit
run_none n s h = ap (λ m. run_end m s) h ∙ run_end-zero step s

-- one step after some
pub step_after : (k : ℕ) (s u : Session) (t : State) → u ≡ after_steps k s → step u.current ≡ Ok t → with_state u t ≡ after_steps (k + 1) s
step_after k s u t at made =
    sym (after_steps-zero step (with_state u t)) ∙ sym (after_steps-made step zero u t made) ∙ ap (after_steps 1) at
    ∙ sym (after_steps-add k 1 s (step s.current) refl)

pub event_is_step : (s : State) → event_of s Step ≡ step s
unfolding event_of
event_is_step s = refl

-- the record of a step of which only the change is there
abbrev pub record_of : Change → State → Undo
record_of change before = record { regs = before.regs; irq = before.irq; nmi = before.nmi; cycles = before.cycles; change = change }

pub undoes_by : (change : Change) (before after : State) → CanRestore change after.bus → bus_before change after.bus ≡ before.bus
    → Undoes (record_of change before) before after
unfolding state_before
undoes_by change before after fits back =
    record { fits = fits; back = λ i. record { bus = back i; regs = before.regs; irq = before.irq; nmi = before.nmi; cycles = before.cycles } }

-- why a run ends after a step, read off the step's change
pub stop_is : (s : Session) (change : Change) (after : State) → bus_before change after.bus ≡ s.current.bus
    → stop_after s.watches s.breaks change after ≡ stop_of s s.current after
unfolding stop_after stop_of watch_met break_met
stop_is s change after back = ap (λ (b : Bus). option_or (watch_met s.watches (record after { bus = b }) after) (break_met s.breaks after after)) back

-- why a run ends at an address
pub break_here : (breaks : List ℕ) (before after : State) (pc : ℕ) (why : Option Why) → pc ≡ after.regs.pc
    → why ≡ (if list_any (nat_eq pc) breaks then Some (Break pc) else None) → why ≡ break_met breaks before after
unfolding break_met
break_here breaks before after pc why at is = is ∙ ap (λ p. if list_any (nat_eq p) breaks then Some (Break p) else None) at
