-- Command lines are calls of the session.
use Rattle.std.proofs.Common.{◌≡◌, ℕ, Bool, true, false, cond, List, [], ◌∷◌, ◌++◌, length, map, take, Result, Ok, Err, refl, sym, ap, ◌∙◌, ◌+◌, arith}
use Rattle.std.specs.Prelude.{codes, nat_lt, ◌==◌, ◌||◌}
use Rattle.std.proofs.lemmas.List.{take_all}
use Rattle.model.specs.State.{State, console_size}
use Rattle.model.specs.Event.{event_of, meets_port, patch_of, bus_with_patch}
use Rattle.model.specs.Session.{Session}
use Rattle.model.specs.Back.{back_of}
use Rattle.model.specs.Commands.{command_of}
use Rattle.model.specs.OneLineAssembly.{one_line}
use Rattle.model.specs.Breakpoints.{break_set, break_cleared, watch_set, watch_cleared}
use Rattle.model.specs.Transcript.{Answer, Serving, after_event, after_input, answer, answer_to, asm_answer, back_answer, event_answer, fault_line, input_answer, serving, serving_after, stepped_answer, table_answer}
use Rattle.model.specs.Calls.{Call, LinesAreCalls, after_answer, after_call, after_calls}
use Rattle.model.specs.Calls.Call.{happen, run, back, set_break, clear_break, set_watch, clear_watch}
use Rattle.model.specs.declared.command.Command.{Command}
use Rattle.model.specs.declared.command.Command.TheVariants.{Regs, Step, Mem, Out, Set, Patch, Reset, Irq, Nmi, Input, Run, Back, Break, Unbreak, Watch, Unwatch, Breaks, Dis, Asm, Quit, Nothing, Bad}
use Rattle.model.specs.declared.event.Event.TheVariants as event
use Rattle.model.specs.declared.event.EventFault.{EventFault}
use Rattle.model.specs.declared.event.EventFault.TheVariants.{BadLength, InputFull, PastEnd, PortAddress}
use Rattle.model.specs.declared.session_fault.SessionFault.{SessionFault}
use Rattle.model.specs.declared.source_fault.AsmFaultKind.{AsmFaultKind}

-- some calls lead from one session to another
abbrev Leads : Session → Session → Type 0
Leads s t = (calls : List Call) × (t ≡ after_calls s calls)

one_call : (s t : Session) (call : Call) → t ≡ after_call s call → Leads s t
one_call s t call e = (call ∷ [], e)

stepped : (s : Session) (r : Result State EventFault)
    → (stepped_answer s r).session ≡ after_event s r
stepped s (Ok state) = refl
stepped s (Err fault) = refl

evented : (s : Session) (r : Result State EventFault) → (event_answer s r).session ≡ after_event s r
evented s (Ok state) = refl
evented s (Err fault) = refl

backed : (s : Session) (r : Result Session SessionFault)
    → (back_answer s r).session ≡ after_answer s r
backed s (Ok t) = refl
backed s (Err fault) = refl

tabled : (s : Session) (r : Result Session SessionFault)
    → (table_answer s r).session ≡ after_answer s r
tabled s (Ok t) = refl
tabled s (Err fault) = refl

-- each byte of input is an event
handed : (bytes : List ℕ) (s : Session)
    → after_input s bytes ≡ after_calls s (map (λ b. happen (event.Input b)) bytes)
unfolding after_input after_call
handed [] s = refl
handed (b ∷ bytes) s = handed bytes (after_event s (event_of s.current (event.Input b)))

given : (s : Session) (bytes : List ℕ) (full : Bool) (text other : List ℕ)
    → Leads s (cond full (answer text s) (answer other (after_input s bytes))).session
given s bytes true text other = ([], refl)
given s bytes false text other = (map (λ b. happen (event.Input b)) bytes, handed bytes s)

-- an assembled line is a patch
or_true : (b : Bool) → (b || true) ≡ true
or_true true = refl
or_true false = refl

patch_by : (long : Bool) (s : State) (address : ℕ) (bytes : List ℕ) → nat_lt 3 (length bytes) ≡ long
    → cond long (Err BadLength)
    (patch_of address (take (length bytes) bytes) s) ≡ patch_of address bytes s
unfolding patch_of
patch_by true s address bytes e =
    let rest : Result State EventFault =
    cond (nat_lt 65536 (address + length bytes)) (Err PastEnd)
    (cond (meets_port s.bus.map address bytes) (Err PortAddress) (Ok (record s { bus = bus_with_patch address bytes s.bus }))) in
    sym (ap (λ b. cond ((length bytes == 0) || b) (Err BadLength) rest) e ∙ ap (λ b. cond b (Err BadLength) rest) (or_true (length bytes == 0)))
patch_by false s address bytes e = ap (λ l. patch_of address l s) (take_all (length bytes) bytes (omega arith))

is_patch : (s : State) (address : ℕ) (bytes : List ℕ)
    → event_of s (event.Patch address bytes (length bytes)) ≡ patch_of address bytes s
unfolding event_of
is_patch s address bytes = patch_by (nat_lt 3 (length bytes)) s address bytes refl

assembled : (s : Session) (address : ℕ) (r : Result (List ℕ) AsmFaultKind)
    → Leads s (asm_answer s address r).session
unfolding after_call
assembled s address (Ok bytes) =
    one_call s _ (happen (event.Patch address bytes (length bytes)))
    (evented s (patch_of address bytes s.current) ∙ ap (after_event s) (sym (is_patch s.current address bytes)))
assembled s address (Err kind) = ([], refl)

-- ---- commands

leads : (command : Command) (s : Session) → Leads s (answer_to command s).session
unfolding answer_to input_answer after_call
leads Regs s = ([], refl)
leads Step s = one_call s _ (happen event.Step) (stepped s (event_of s.current event.Step))
leads (Mem first last) s = ([], refl)
leads Out s = ([], refl)
leads (Set setting) s = one_call s _ (happen (event.Set setting)) (evented s (event_of s.current (event.Set setting)))
leads (Patch address bytes count) s = one_call s _ (happen (event.Patch address bytes count)) (evented s (event_of s.current (event.Patch address bytes count)))
leads Reset s = one_call s _ (happen event.Reset) (evented s (event_of s.current event.Reset))
leads (Irq level) s = one_call s _ (happen (event.Irq level)) (evented s (event_of s.current (event.Irq level)))
leads Nmi s = one_call s _ (happen event.Nmi) (evented s (event_of s.current event.Nmi))
leads (Input bytes count) s = given s (take count bytes) (nat_lt console_size (length s.current.bus.given + length (take count bytes)))
    (fault_line InputFull) (codes "OK\n")
leads (Run n) s = one_call s _ (run n) refl
leads (Back k) s = one_call s _ (back k) (backed s (back_of k s))
leads (Break address) s = one_call s _ (set_break address) (tabled s (break_set address s))
leads (Unbreak address) s = one_call s _ (clear_break address) (tabled s (break_cleared address s))
leads (Watch address) s = one_call s _ (set_watch address) (tabled s (watch_set address s))
leads (Unwatch address) s = one_call s _ (clear_watch address) (tabled s (watch_cleared address s))
leads Breaks s = ([], refl)
leads (Dis address count) s = ([], refl)
leads (Asm address text count) s = assembled s address (one_line s.current.bus.map.profile address (take count text))
leads Quit s = ([], refl)
leads Nothing s = ([], refl)
leads Bad s = ([], refl)

-- ---- lines

one_after_another : (xs ys : List Call) (s : Session)
    → after_calls (after_calls s xs) ys ≡ after_calls s (xs ++ ys)
one_after_another [] ys s = refl
one_after_another (x ∷ xs) ys s = one_after_another xs ys (after_call s x)

leads_on : (s t u : Session) → Leads s t → Leads t u → Leads s u
leads_on s t u first then = (first.0 ++ then.0, then.1 ∙ ap (λ v. after_calls v then.0) first.1 ∙ one_after_another first.0 then.0 s)

served_leads : (s : Session) (a : Answer) (quit : Bool) (rest : Session → Serving) → a.quit ≡ quit
    → Leads s a.session → Leads a.session (rest a.session).session
    → Leads s (serving_after a rest).session
served_leads s a true rest e first then = rw e first
served_leads s a false rest e first then = rw e (leads_on s a.session (rest a.session).session first then)

lines_lead : (lines : List (List ℕ)) (s : Session) → Leads s (serving s lines).session
unfolding serving
lines_lead [] s = ([], refl)
lines_lead (line ∷ lines) s =
    let a = answer_to (command_of line) s in
    served_leads s a a.quit (λ t. serving t lines) refl (leads (command_of line) s) (lines_lead lines a.session)

pub lines_are_calls : LinesAreCalls
lines_are_calls s lines = lines_lead lines s
