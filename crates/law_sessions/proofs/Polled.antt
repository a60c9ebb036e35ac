-- Sessions whose steps never store an odd byte at base+3 are served as by the machine whose port
-- could only be polled.
use Rattle.std.proofs.Common.{◌≡◌, ℕ, ◌||◌, eqb, ◌+◌, ◌-◌, ◌<◌, ◌≤◌, zero, suc, Bool, true, false, cond, List, [], ◌∷◌, length, take, get_or, Option, Some, None, Result, Ok, Err, refl, sym, ap, ◌∙◌, subst, arith, length-append}
use Rattle.std.proofs.lemmas.Bool.Decides.{nat_tests}
use Rattle.std.specs.Prelude.{codes, nat_le, nat_lt}
use Rattle.std.specs.List.{All}
use Rattle.std.specs.Option.{option_or}
use Rattle.std.proofs.lemmas.List.Elements.{All-nil, All-push, All-pop, All-take, All-drop, All-get_or}
use Rattle.model.specs.State.{Map, Bus, State, console_size, bus_with_byte}
use Rattle.model.specs.Step.{step}
use Rattle.model.specs.Event.{event_of, reset_of, reset_state, meets_port, patch_of, bus_with_patch, input_of, start}
use Rattle.model.specs.Session.{Session, with_state, keep_last, new_session}
use Rattle.model.specs.Run.{one_later, run_end, run_end_by, after_steps, after_steps_by, watch_met, break_met}
use Rattle.model.specs.Back.{states, without_last, back_of}
use Rattle.model.specs.Breakpoints.{with_breaks, with_watches, break_set, break_cleared, watch_set, watch_cleared}
use Rattle.model.specs.Commands.{command_of}
use Rattle.model.specs.TextLines.{lines_of}
use Rattle.model.specs.OneLineAssembly.{one_line}
use Rattle.model.specs.Transcript.{Answer, answer, answer_to, run_line, fault_line, asm_answer, event_answer, stepped_answer, back_answer, table_answer, after_event, after_input, input_answer, serving, serving_after}
use Rattle.model.specs.Polled.{polled_step, polled_answer, polled_serving, sets_control, SparesControl, AllSpareControl, PolledSessionsStay, PolledTranscriptsStay}
use Rattle.model.specs.declared.command.Command.{Command}
use Rattle.model.specs.declared.command.Command.TheVariants.{Step, Set, Patch, Reset, Irq, Nmi, Input, Run, Back, Break, Unbreak, Watch, Unwatch, Asm}
use Rattle.model.specs.declared.event.EventFault.{EventFault}
use Rattle.model.specs.declared.event.EventFault.TheVariants.{BadLength, PastEnd, PortAddress, InputFull}
use Rattle.model.specs.declared.session_fault.SessionFault.{SessionFault}
use Rattle.model.specs.declared.session_fault.SessionFault.TheVariants.{NoHistory}
use Rattle.model.specs.declared.source_fault.AsmFaultKind.{AsmFaultKind}
use Rattle.model.specs.declared.run_end.Why.{Why}
use Rattle.model.specs.declared.run_end.RunEnd.{RunEnd}
use Rattle.law_sessions.proofs.Runs.{ends_with, run_end-zero, run_end-refused, run_end-made, after_steps-zero, after_steps-made, after_steps-refused}
use Rattle.law_sessions.proofs.Unset.{Unset, PolledStep, step_same, refused_spares}

-- all states that a session holds have a control byte that is 0
abbrev AllUnset : Session → Type 0
AllUnset s = All Unset (states s)

current_unset : (s : Session) → AllUnset s → Unset s.current
current_unset s h = (All-pop Unset (states s) s.earlier (Some s.current) refl h).1

appended_unset : (s : Session) (t : State) → AllUnset s → Unset t → AllUnset (with_state s t)
appended_unset s t h u = All-push Unset (keep_last s.history (states s)) t (All-drop Unset (length (states s) - s.history) (states s) h) u

-- ---- runs

-- none of the first steps stores an odd byte at base+3
abbrev SparesSteps : ℕ → Session → Type 0
SparesSteps n s = (k : ℕ) → k < n → sets_control (after_steps k s).current ≡ false

spares_first : (n : ℕ) (s : Session) → 0 < n → SparesSteps n s → sets_control s.current ≡ false
spares_first n s h p = subst (λ (u : Session). sets_control u.current ≡ false) (after_steps-zero step s) (p 0 h)

spares_rest : (n : ℕ) (s : Session) (t : State) → step s.current ≡ Ok t → SparesSteps (suc n) s
    → SparesSteps n (with_state s t)
spares_rest n s t h p k l = subst (λ (u : Session). sets_control u.current ≡ false) (after_steps-made step k s t h) (p (suc k) (omega arith))

-- two sessions that are the same, and hold only states whose control byte is 0
pub record SameSession (new old : Session) : Type 0 where
  pub same : new ≡ old
  pub unset : AllUnset new

steps_same : (k : ℕ) (s : Session) (r : Result State EventFault) → step s.current ≡ r → AllUnset s
    → SparesSteps k s → SameSession (after_steps k s) (after_steps_by polled_step k s)
steps_same zero s r h u p = record {
  same = after_steps-zero step s ∙ sym (after_steps-zero polled_step s);
  unset = subst AllUnset (sym (after_steps-zero step s)) u;
}
steps_same (suc k) s (Ok t) h u p =
    let one = step_same s.current (current_unset s u) (spares_first (suc k) s (omega arith) p) in
    let rest = steps_same k (with_state s t) (step t) refl (appended_unset s t u (one.unset t h)) (spares_rest k s t h p) in record {
      same = after_steps-made step k s t h ∙ rest.same ∙ sym (after_steps-made polled_step k s t (sym one.same ∙ h));
      unset = subst AllUnset (sym (after_steps-made step k s t h)) rest.unset;
    }
steps_same (suc k) s (Err f) h u p =
    let one = step_same s.current (current_unset s u) (refused_spares s.current f h) in record {
      same = after_steps-refused step k s f h ∙ sym (after_steps-refused polled_step k s f (sym one.same ∙ h));
      unset = subst AllUnset (sym (after_steps-refused step k s f h)) u;
    }

ends_later : (stop : Option Why) (rest : RunEnd) → 0 < (ends_with stop rest).did
ends_later None rest = omega arith
ends_later (Some why) rest = omega arith

run_same : (n : ℕ) (s : Session) (r : Result State EventFault) → step s.current ≡ r
    → Unset s.current → SparesSteps (run_end n s).did s → run_end n s ≡ run_end_by polled_step n s
run_same zero s r h u p = run_end-zero step s ∙ sym (run_end-zero polled_step s)
run_same (suc n) s (Ok t) h u p =
    let stop = option_or (watch_met s.watches s.current t) (break_met s.breaks s.current t) in
    let next = with_state s t in
    let e = run_end-made step n s t h in
    let spared : SparesSteps (ends_with stop (run_end n next)).did s = subst (λ (end : RunEnd). SparesSteps end.did s) e p in
    let one = step_same s.current u (spares_first (ends_with stop (run_end n next)).did s (ends_later stop (run_end n next)) spared) in
    e ∙ by stop spared (λ q. run_same n next (step t) refl (one.unset t h) q) ∙ sym (run_end-made polled_step n s t (sym one.same ∙ h))
  where
    by : (stop : Option Why) → SparesSteps (ends_with stop (run_end n (with_state s t))).did s
        → (SparesSteps (run_end n (with_state s t)).did (with_state s t) → run_end n (with_state s t) ≡ run_end_by polled_step n (with_state s t))
        → ends_with stop (run_end n (with_state s t)) ≡ ends_with stop (run_end_by polled_step n (with_state s t))
    by (Some why) p rest = refl
    by None p rest = ap one_later (rest (spares_rest (run_end n (with_state s t)).did s t h p))
run_same (suc n) s (Err f) h u p =
    let one = step_same s.current u (refused_spares s.current f h) in
    run_end-refused step n s f h ∙ sym (run_end-refused polled_step n s f (sym one.same ∙ h))

-- ---- events other than steps

-- an event that is refused, or leaves a control byte that is 0
pub record Leaves (r : Result State EventFault) : Type 0 where
  pub unset : (t : State) → r ≡ Ok t → Unset t

leaves : (t : State) → Unset t → Leaves (Ok t)
leaves t h = record { unset = λ u e. let is : t ≡ u = cc in subst Unset is h }

refuses : (f : EventFault) → Leaves (Err f)
refuses f = record { unset = λ u e. cc }

either : (b : Bool) (x y : Result State EventFault) → Leaves x → Leaves y → Leaves (cond b x y)
either true x y h k = h
either false x y h k = k

reset_leaves : (state : State) → Leaves (reset_of state)
unfolding reset_of reset_state
reset_leaves state = either _ _ _ (refuses _) (leaves _ refl)

patched_keeps : (bytes : List ℕ) (address : ℕ) (bus : Bus)
    → (bus_with_patch address bytes bus).control ≡ bus.control
patched_keeps [] address bus = refl
patched_keeps (byte ∷ bytes) address bus = patched_keeps bytes (address + 1) (bus_with_byte bus address byte)

patch_leaves : (address : ℕ) (bytes : List ℕ) (state : State) → Unset state
    → Leaves (patch_of address bytes state)
unfolding patch_of
patch_leaves address bytes state h =
    either (eqb (length bytes) 0 || nat_lt 3 (length bytes)) (Err BadLength) _ (refuses BadLength)
    (either (nat_lt 65536 (address + length bytes)) (Err PastEnd) _ (refuses PastEnd)
    (either (meets_port state.bus.map address bytes) (Err PortAddress) _ (refuses PortAddress)
    (leaves (record state { bus = bus_with_patch address bytes state.bus }) (patched_keeps bytes address state.bus ∙ h))))

input_leaves : (byte : ℕ) (state : State) → Unset state → Leaves (input_of byte state)
unfolding input_of
input_leaves byte state h = either _ _ _ (refuses _) (leaves _ h)

-- ---- commands

-- two answers that are the same, and a session that holds only states whose control byte is 0
pub record SameAnswer (new old : Answer) : Type 0 where
  pub same : new ≡ old
  pub unset : AllUnset new.session

stays : (text : List ℕ) (s : Session) → AllUnset s → SameAnswer (answer text s) (answer text s)
stays text s u = record { same = refl; unset = u }

evented : (s : Session) (r : Result State EventFault) → AllUnset s → Leaves r
    → SameAnswer (event_answer s r) (event_answer s r)
evented s (Ok t) u l = record { same = refl; unset = appended_unset s t u (l.unset t refl) }
evented s (Err f) u l = stays (fault_line f) s u

assembled : (s : Session) (address : ℕ) (r : Result (List ℕ) AsmFaultKind) → AllUnset s
    → SameAnswer (asm_answer s address r) (asm_answer s address r)
assembled s address (Ok bytes) u = evented s (patch_of address bytes s.current) u (patch_leaves address bytes s.current (current_unset s u))
assembled s address (Err kind) u = record { same = refl; unset = u }

after_event-unset : (s : Session) (r : Result State EventFault) → AllUnset s → Leaves r
    → AllUnset (after_event s r)
after_event-unset s (Ok t) u l = appended_unset s t u (l.unset t refl)
after_event-unset s (Err f) u l = u

after_input-unset : (bytes : List ℕ) (s : Session) → AllUnset s → AllUnset (after_input s bytes)
unfolding after_input event_of
after_input-unset [] s u = u
after_input-unset (byte ∷ bytes) s u =
    after_input-unset bytes (after_event s (input_of byte s.current))
    (after_event-unset s (input_of byte s.current) u (input_leaves byte s.current (current_unset s u)))

given : (s : Session) (bytes : List ℕ) → AllUnset s → SameAnswer (input_answer s bytes)
    (input_answer s bytes)
unfolding input_answer
given s bytes u = by (nat_lt console_size (length s.current.bus.given + length bytes))
  where
    by : (b : Bool) → SameAnswer (cond b (answer (fault_line InputFull) s) (answer (codes "OK\n") (after_input s bytes)))
        (cond b (answer (fault_line InputFull) s) (answer (codes "OK\n") (after_input s bytes)))
    by true = stays (fault_line InputFull) s u
    by false = stays (codes "OK\n") (after_input s bytes) (after_input-unset bytes s u)

without_last-unset : (k : ℕ) (s : Session) → k ≤ length s.earlier → AllUnset s
    → AllUnset (without_last k s)
unfolding without_last
without_last-unset k s h u =
    let left = length s.earlier - k in
    let within : left < length (states s) = omega (arith, length-append s.earlier (s.current ∷ [])) in
    All-push Unset (take left s.earlier) (get_or (states s) left s.current)
    (All-take Unset left s.earlier (All-pop Unset (states s) s.earlier (Some s.current) refl u).0)
    (All-get_or Unset (states s) left s.current within u)

backed : (k : ℕ) (s : Session) → AllUnset s → SameAnswer (back_answer s (back_of k s))
    (back_answer s (back_of k s))
unfolding back_of
backed k s u = by (nat_le k (length s.earlier)) refl
  where
    by : (b : Bool) → nat_le k (length s.earlier) ≡ b
        → SameAnswer (back_answer s (cond b (Ok (without_last k s)) (Err (NoHistory (length s.earlier)))))
        (back_answer s (cond b (Ok (without_last k s)) (Err (NoHistory (length s.earlier)))))
    by true h = record { same = refl; unset = without_last-unset k s (grind (arith, nat_tests)) u }
    by false h = record { same = refl; unset = u }

breaks_set : (s : Session) (r : Result (List ℕ) SessionFault) → AllUnset s
    → SameAnswer (table_answer s (with_breaks s r)) (table_answer s (with_breaks s r))
breaks_set s (Ok t) u = record { same = refl; unset = u }
breaks_set s (Err f) u = record { same = refl; unset = u }

watches_set : (s : Session) (r : Result (List ℕ) SessionFault) → AllUnset s
    → SameAnswer (table_answer s (with_watches s r)) (table_answer s (with_watches s r))
watches_set s (Ok t) u = record { same = refl; unset = u }
watches_set s (Err f) u = record { same = refl; unset = u }

refused_or : (s : Session) (b : Bool) (f : SessionFault) (r : Result (List ℕ) SessionFault)
    → AllUnset s
    → SameAnswer (table_answer s (cond b (Err f) (with_watches s r)))
    (table_answer s (cond b (Err f) (with_watches s r)))
refused_or s true f r u = record { same = refl; unset = u }
refused_or s false f r u = watches_set s r u

stepped : (s : Session) (new old : Result State EventFault) → AllUnset s → PolledStep new old
    → SameAnswer (stepped_answer s new) (stepped_answer s old)
stepped s (Ok t) old u p = record { same = ap (stepped_answer s) p.same; unset = appended_unset s t u (p.unset t refl) }
stepped s (Err f) old u p = record { same = ap (stepped_answer s) p.same; unset = u }

ran : (n : ℕ) (s : Session) → AllUnset s → SparesSteps (run_end n s).did s
    → SameAnswer (answer (run_line (run_end n s)) (after_steps (run_end n s).did s))
    (answer (run_line (run_end_by polled_step n s)) (after_steps_by polled_step (run_end_by polled_step n s).did s))
ran n s u p =
    let steps = steps_same (run_end n s).did s (step s.current) refl u p in record {
      same = ap (answer (run_line (run_end n s))) steps.same
          ∙ ap (λ (end : RunEnd). answer (run_line end) (after_steps_by polled_step end.did s)) (run_same n s (step s.current) refl (current_unset s u) p);
      unset = steps.unset;
    }

answered : (c : Command) (s : Session) → AllUnset s → SparesControl c s → SameAnswer (answer_to c s)
    (polled_answer c s)
unfolding answer_to polled_answer event_of break_set break_cleared watch_set watch_cleared
answered Step s u p = stepped s (step s.current) (polled_step s.current) u (step_same s.current (current_unset s u) p)
answered (Run n) s u p = ran n s u p
answered (Set x) s u p = evented s _ u (leaves _ (current_unset s u))
answered (Patch a bytes n) s u p = evented s _ u (either (nat_lt 3 n) (Err BadLength) (patch_of a (take n bytes) s.current) (refuses BadLength)
    (patch_leaves a (take n bytes) s.current (current_unset s u)))
answered Reset s u p = evented s _ u (reset_leaves s.current)
answered (Irq level) s u p = evented s _ u (leaves _ (current_unset s u))
answered Nmi s u p = evented s _ u (leaves _ (current_unset s u))
answered (Input bytes n) s u p = given s (take n bytes) u
answered (Back n) s u p = backed n s u
answered (Break a) s u p = breaks_set s _ u
answered (Unbreak a) s u p = breaks_set s _ u
answered (Watch a) s u p = refused_or s _ _ _ u
answered (Unwatch a) s u p = watches_set s _ u
answered (Asm a text n) s u p = assembled s a (one_line s.current.bus.map.profile a (take n text)) u
answered command s u p = record { same = refl; unset = u }

-- ---- lines

goes_on : (a : Answer) (b : Bool) (lines : List (List ℕ)) → a.quit ≡ b
    → (b ≡ false → serving a.session lines ≡ polled_serving a.session lines)
    → serving_after a (λ t. serving t lines) ≡ serving_after a (λ t. polled_serving t lines)
goes_on a true lines h rest = rw h refl
goes_on a false lines h rest = rw (h, rest refl) refl

served_same : (lines : List (List ℕ)) (s : Session) → AllUnset s → AllSpareControl s lines
    → serving s lines ≡ polled_serving s lines
unfolding serving polled_serving
served_same [] s u p = refl
served_same (line ∷ lines) s u p =
    let a = answer_to (command_of line) s in
    let same = answered (command_of line) s u p.0 in
    goes_on a a.quit lines refl (λ h. served_same lines a.session same.unset (p.1 h)) ∙ ap (λ b. serving_after b (λ t. polled_serving t lines)) same.same

pub polled_sessions_stay : PolledSessionsStay
polled_sessions_stay s lines u p = served_same lines s u p

start_unset : (map : Map) (image : List (Option ℕ)) → Unset (start map image)
unfolding start reset_state
start_unset map image = refl

pub polled_transcripts_stay : PolledTranscriptsStay
polled_transcripts_stay map image history input p =
    served_same (lines_of input) (new_session history (start map image)) (All-push Unset [] (start map image) (All-nil Unset) (start_unset map image)) p
