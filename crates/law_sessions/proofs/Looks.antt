-- Looking changes no state.
use Rattle.std.proofs.Common.{◌≡◌, ℕ, ◌+◌, zero, suc, Bool, true, false, cond, List, [], ◌∷◌, length, map, take, Result, Ok, Err, refl, sym, ap, ◌∙◌, subst, arith, nat_le, eqb, ◌⊎◌, inl, inr}
use Rattle.std.proofs.lemmas.Bool.Decides.{nat_tests}
use Rattle.std.specs.Prelude.{nat_lt, codes}
use Rattle.model.specs.State.{State, console_size}
use Rattle.model.specs.declared.event.EventFault.TheVariants.{InputFull}
use Rattle.model.specs.Event.{event_of}
use Rattle.model.specs.Session.{Session}
use Rattle.model.specs.Step.{step}
use Rattle.model.specs.declared.event.Event.TheVariants as event
use Rattle.model.specs.declared.event.EventFault.{EventFault}
use Rattle.model.specs.declared.session_fault.SessionFault.{SessionFault}
use Rattle.model.specs.declared.command.Command.{Command}
use Rattle.model.specs.declared.command.Command.TheVariants.{Regs, Step, Mem, Out, Set, Patch, Reset, Irq, Nmi, Input, Run, Back, Break, Unbreak, Watch, Unwatch, Breaks, Dis, Asm, Quit, Nothing, Bad}
use Rattle.model.specs.Run.{run_end, after_steps, after_run, without_stops}
use Rattle.model.specs.Back.{back_of, without_last, states}
use Rattle.model.specs.Breakpoints.{with_breaks, with_watches, break_set, break_cleared, watch_set, watch_cleared}
use Rattle.model.specs.Commands.{command_of}
use Rattle.model.specs.Transcript.{Answer, Serving, answer, fault_line, answer_to, asm_answer, event_answer, stepped_answer, back_answer, table_answer, after_event, after_input, input_answer, serving, serving_after}
use Rattle.model.specs.Looking.{without_looks, without_look, run_again, is_look, LooksAreHarmless}
use Rattle.model.specs.OneLineAssembly.{one_line}
use Rattle.model.specs.Event.{patch_of}
use Rattle.model.specs.declared.source_fault.AsmFaultKind.{AsmFaultKind}
use Rattle.law_sessions.proofs.Runs.{run_can_be_repeated, after_steps-zero}

-- the commands one after another, up to one that ends the engine
abbrev obeyed : Session → List Command → Session
obeyed s [] = s
obeyed s (command ∷ commands) = cond (answer_to command s).quit (answer_to command s).session (obeyed (answer_to command s).session commands)

session_of : (a : Answer) (b : Bool) (rest : Session → Serving) → a.quit ≡ b
    → (serving_after a rest).session ≡ cond b a.session (rest a.session).session
session_of a true rest h = rw h refl
session_of a false rest h = rw h refl

obeyed-serving : (lines : List (List ℕ)) (s : Session)
    → (serving s lines).session ≡ obeyed s (map command_of lines)
unfolding serving
obeyed-serving [] s = refl
obeyed-serving (line ∷ lines) s =
    let a = answer_to (command_of line) s in
    session_of a a.quit (λ t. serving t lines) refl ∙ ap (cond a.quit a.session) (obeyed-serving lines a.session)

-- two answers that end alike, the first of them with no breakpoint and no watch set
pub record SameBare (a b : Answer) : Type 0 where
  pub session : a.session ≡ without_stops b.session
  pub quit : a.quit ≡ b.quit

stepped : (s : Session) (r : Result State EventFault)
    → SameBare (stepped_answer (without_stops s) r) (stepped_answer s r)
stepped s (Ok t) = record { session = refl; quit = refl }
stepped s (Err f) = record { session = refl; quit = refl }

evented : (s : Session) (r : Result State EventFault) → SameBare (event_answer (without_stops s) r)
    (event_answer s r)
evented s (Ok t) = record { session = refl; quit = refl }
evented s (Err f) = record { session = refl; quit = refl }

assembled : (s : Session) (address : ℕ) (r : Result (List ℕ) AsmFaultKind)
    → SameBare (asm_answer (without_stops s) address r) (asm_answer s address r)
assembled s address (Ok bytes) = evented s (patch_of address bytes s.current)
assembled s address (Err kind) = record { session = refl; quit = refl }

after_event-without_stops : (s : Session) (r : Result State EventFault)
    → after_event (without_stops s) r ≡ without_stops (after_event s r)
after_event-without_stops s (Ok t) = refl
after_event-without_stops s (Err f) = refl

after_input-without_stops : (bytes : List ℕ) (s : Session)
    → after_input (without_stops s) bytes ≡ without_stops (after_input s bytes)
unfolding after_input
after_input-without_stops [] s = refl
after_input-without_stops (byte ∷ bytes) s =
    ap (λ t. after_input t bytes) (after_event-without_stops s (event_of s.current (event.Input byte)))
    ∙ after_input-without_stops bytes (after_event s (event_of s.current (event.Input byte)))

given : (s : Session) (bytes : List ℕ) (b : Bool) (text other : List ℕ)
    → SameBare (cond b (answer text (without_stops s)) (answer other (after_input (without_stops s) bytes)))
    (cond b (answer text s) (answer other (after_input s bytes)))
given s bytes true text other = record { session = refl; quit = refl }
given s bytes false text other = record { session = after_input-without_stops bytes s; quit = refl }

backed : (n : ℕ) (s : Session)
    → SameBare (back_answer (without_stops s) (back_of n (without_stops s)))
    (back_answer s (back_of n s))
unfolding back_of without_last
backed n s = by (nat_le n (length s.earlier))
  where
    by : (b : Bool) → SameBare (back_answer (without_stops s)
        (cond b (Ok (without_last n (without_stops s))) (Err
        (Rattle.model.specs.declared.session_fault.SessionFault.TheVariants.NoHistory (length s.earlier)))))
        (back_answer s (cond b (Ok (without_last n s)) (Err (Rattle.model.specs.declared.session_fault.SessionFault.TheVariants.NoHistory (length s.earlier)))))
    by true = record { session = refl; quit = refl }
    by false = record { session = refl; quit = refl }

-- a look leaves the states, and goes on
pub record Looked (a : Answer) (s : Session) : Type 0 where
  pub session : without_stops a.session ≡ without_stops s
  pub quit : a.quit ≡ false

breaks_looked : (s : Session) (r : Result (List ℕ) SessionFault)
    → Looked (table_answer s (with_breaks s r)) s
breaks_looked s (Ok t) = record { session = refl; quit = refl }
breaks_looked s (Err f) = record { session = refl; quit = refl }

watches_looked : (s : Session) (r : Result (List ℕ) SessionFault)
    → Looked (table_answer s (with_watches s r)) s
watches_looked s (Ok t) = record { session = refl; quit = refl }
watches_looked s (Err f) = record { session = refl; quit = refl }

refused_or : (s : Session) (b : Bool) (f : SessionFault) (r : Result (List ℕ) SessionFault)
    → Looked (table_answer s (cond b (Err f) (with_watches s r))) s
refused_or s true f r = record { session = refl; quit = refl }
refused_or s false f r = watches_looked s r

-- a command is a look, or changes the states whatever is set, or is a run
abbrev Sort : Command → Session → Type 0
Sort c s = (Looked (answer_to c s) s × ((rest : List Command) → without_look c s rest ≡ rest))
    ⊎ ((SameBare (answer_to c (without_stops s)) (answer_to c s) × ((rest : List Command) → without_look c s rest ≡ c ∷ rest)) ⊎ ((n : ℕ) × (c ≡ Run n)))

sort : (c : Command) (s : Session) → Sort c s
unfolding answer_to without_look is_look input_answer break_set break_cleared watch_set watch_cleared
sort Regs s = inl (record { session = refl; quit = refl }, λ rest. refl)
sort (Mem first last) s = inl (record { session = refl; quit = refl }, λ rest. refl)
sort Out s = inl (record { session = refl; quit = refl }, λ rest. refl)
sort (Dis a n) s = inl (record { session = refl; quit = refl }, λ rest. refl)
sort Breaks s = inl (record { session = refl; quit = refl }, λ rest. refl)
sort Nothing s = inl (record { session = refl; quit = refl }, λ rest. refl)
sort Bad s = inl (record { session = refl; quit = refl }, λ rest. refl)
sort (Break a) s = inl (breaks_looked s _, λ rest. refl)
sort (Unbreak a) s = inl (breaks_looked s _, λ rest. refl)
sort (Watch a) s = inl (refused_or s _ _ _, λ rest. refl)
sort (Unwatch a) s = inl (watches_looked s _, λ rest. refl)
sort (Run n) s = inr (inr (n, refl))
sort Step s = inr (inl (stepped s (event_of s.current event.Step), λ rest. refl))
sort (Set x) s = inr (inl (evented s (event_of s.current (event.Set x)), λ rest. refl))
sort (Patch a bytes n) s = inr (inl (evented s (event_of s.current (event.Patch a bytes n)), λ rest. refl))
sort Reset s = inr (inl (evented s (event_of s.current event.Reset), λ rest. refl))
sort (Irq level) s = inr (inl (evented s (event_of s.current (event.Irq level)), λ rest. refl))
sort Nmi s = inr (inl (evented s (event_of s.current event.Nmi), λ rest. refl))
sort (Input bytes n) s = inr (inl (
  given s (take n bytes) (nat_lt console_size (length s.current.bus.given + length (take n bytes)))
      (fault_line InputFull) (codes "OK\n"),
  λ rest. refl,
))
sort (Back n) s = inr (inl (backed n s, λ rest. refl))
sort (Asm a text n) s = inr (inl (assembled s a (one_line s.current.bus.map.profile a (take n text)), λ rest. refl))
sort Quit s = inr (inl (record { session = refl; quit = refl }, λ rest. refl))

-- what is obeyed after a command that ends alike
alike : (a b : Answer) (rest others : Session → Session) → SameBare a b
    → others (without_stops b.session) ≡ without_stops (rest b.session)
    → cond a.quit a.session (others a.session)
    ≡ without_stops (cond b.quit b.session (rest b.session))
alike a b rest others h on =
    ap (λ q. cond q a.session (others a.session)) h.quit ∙ ap (λ t. cond b.quit t (others t)) h.session ∙ by b.quit
  where
    by : (q : Bool) → cond q (without_stops b.session) (others (without_stops b.session)) ≡ without_stops (cond q b.session (rest b.session))
    by true = refl
    by false = on

obeyed-run : (n : ℕ) (s : Session) (rest : List Command)
    → obeyed s (Run n ∷ rest) ≡ obeyed (after_run n s) rest
unfolding answer_to
obeyed-run n s rest = refl

without_look-run : (n : ℕ) (s : Session) (rest : List Command)
    → without_look (Run n) s rest ≡ run_again (run_end n s).did rest
unfolding without_look
without_look-run n s rest = refl

session-run : (n : ℕ) (s : Session) → (answer_to (Run n) s).session ≡ after_run n s
unfolding answer_to
session-run n s = refl

-- a run made again, or left out where it made no step
again : (k : ℕ) (s : Session) (rest : List Command)
    → after_run k (without_stops s) ≡ without_stops (after_steps k s) → obeyed (without_stops s)
    (run_again k rest) ≡ obeyed (without_stops (after_steps k s)) rest
again zero s rest h = ap (λ t. obeyed (without_stops t) rest) (sym (after_steps-zero step s))
again (suc k) s rest h =
    let e : eqb (suc k) 0 ≡ false = grind (arith, nat_tests) in
    ap (λ b. obeyed (without_stops s) (cond b rest (Run (suc k) ∷ rest))) e ∙ obeyed-run (suc k) (without_stops s) rest ∙ ap (λ t. obeyed t rest) h

harmless : (commands : List Command) (s : Session) → obeyed (without_stops s)
    (without_looks s commands) ≡ without_stops (obeyed s commands)
unfolding without_looks
harmless [] s = refl
harmless (c ∷ cs) s =
    let a = answer_to c s in
    let on : obeyed (without_stops a.session) (without_looks a.session cs) ≡ without_stops (obeyed a.session cs) = harmless cs a.session in
    elim (sort c s) [
      | inl h ↦ ap (obeyed (without_stops s)) (h.1 (without_looks a.session cs)) ∙ ap (λ t. obeyed t (without_looks a.session cs)) (sym h.0.session) ∙ on
          ∙ ap (λ q. without_stops (cond q a.session (obeyed a.session cs))) (sym h.0.quit)
      | inr other ↦ elim other [
        | inl h ↦ ap (obeyed (without_stops s)) (h.1 (without_looks a.session cs))
            ∙ alike (answer_to c (without_stops s)) a (λ t. obeyed t cs) (λ t. obeyed t (without_looks a.session cs)) h.0 on
        | inr h ↦
            let n = h.0 in
            let is : c ≡ Run n = h.1 in
            subst (λ (d : Command). obeyed (without_stops s) (without_look d s (without_looks (answer_to d s).session cs))
            ≡ without_stops (obeyed s (d ∷ cs))) (sym is)
            (ap (obeyed (without_stops s)) (without_look-run n s (without_looks (answer_to (Run n) s).session cs))
            ∙ again (run_end n s).did s (without_looks (answer_to (Run n) s).session cs) ((run_can_be_repeated n s).1)
            ∙ ap (λ t. obeyed (without_stops t) (without_looks (answer_to (Run n) s).session cs)) (sym (session-run n s))
            ∙ harmless cs (answer_to (Run n) s).session ∙ ap without_stops (ap (λ t. obeyed t cs) (session-run n s) ∙ sym (obeyed-run n s cs)))
      ]
    ]

pub looks_are_harmless : LooksAreHarmless
looks_are_harmless s lines others same =
    ap states (obeyed-serving others (without_stops s) ∙ ap (obeyed (without_stops s)) same ∙ harmless (map command_of lines) s
    ∙ ap without_stops (sym (obeyed-serving lines s)))
