-- What a client is told of a halt. Source: Debug Adapter Protocol 1.65, "Stopped Event"; mos65.
use Rattle.std.specs.Prelude.{ℕ, ◌≡◌, ◌==◌, Bool, if◌then◌else◌, List, [], ◌∷◌, ◌++◌, length, Option, None}
use Rattle.std.specs.List.{flat_map, list_any}
use Rattle.dap_messages.specs.SeenAnswers.{SeenAnswer, nothing}
use Rattle.dap_messages.specs.Messages.{Said, done}
use Rattle.dap_session.specs.declared.client.Client.{Client}
use Rattle.dap_session.specs.declared.wording.TheConstants.{GONE_TO}
use Rattle.dap_session.specs.Told.{told_of}
use Rattle.dap_messages.specs.declared.halt.Halt.{Halt}
use Rattle.dap_messages.specs.declared.halt.Reason.{Reason}
use Rattle.dap_messages.specs.declared.halt.Reason.TheVariants.{Breakpoint, FunctionBreakpoint, Goto, InstructionBreakpoint}
use Rattle.dap_messages.specs.declared.listed.Listed.{Listed}
use Rattle.dap_messages.specs.declared.listed.Placed.{Placed}
use Rattle.model.specs.declared.event.EventFault.{EventFault}
use Rattle.mon_session.specs.declared.mon_state.MonState.{MonState}

abbrev pub is_at : List Placed → ℕ → Bool
is_at placed address = list_any (λ other. other.address == address) placed

-- Which breakpoint stands at an address: one that is listed by its name alone, or by its address
-- alone, is told apart.
abbrev pub break_reason : Listed → ℕ → Reason
break_reason listed pc = if is_at listed.lines.items pc then Breakpoint
    else if is_at listed.functions.items pc then FunctionBreakpoint
    else if is_at listed.addresses.items pc then InstructionBreakpoint else Breakpoint

abbrev pub reason_at : Listed → ℕ → Reason → Reason
reason_at listed pc Breakpoint = break_reason listed pc
reason_at listed pc other = other

-- A halt as it is told, where these breakpoints are listed.
abbrev pub halt_at : Listed → MonState → Halt → Halt
halt_at listed mon halt = record halt {
  reason = reason_at listed mon.session.current.regs.pc halt.reason;
}

-- ---- which breakpoints have stopped a run: those that are listed where it stands

abbrev pub id_if : ℕ → Placed → List ℕ
id_if pc placed = if placed.address == pc then placed.id ∷ [] else []

abbrev pub ids_at : ℕ → List Placed → List ℕ
ids_at pc placed = flat_map (id_if pc) placed

abbrev pub hits_at : Listed → ℕ → Reason → List ℕ
hits_at listed pc Breakpoint
    = (ids_at pc listed.lines.items ++ ids_at pc listed.addresses.items)
    ++ ids_at pc listed.functions.items
hits_at listed pc other = []

-- What is told of a halt then.
abbrev pub told_at : Listed → MonState → ℕ → Halt → List Said
told_at listed mon told halt = told_of mon told (halt_at listed mon halt)
    (hits_at listed mon.session.current.regs.pc halt.reason)

-- ---- what stays

-- The launch, the files, and the breakpoints that are listed, are what they were.
abbrev pub KeepsProgram : Client → Client → Type 0
KeepsProgram old new = (new.launch ≡ old.launch) × (new.files ≡ old.files)
    × (new.listed ≡ old.listed)

-- So is the machine. More may be told.
abbrev pub KeepsSession : Client → Client → Type 0
KeepsSession old new = (new.mon ≡ old.mon) × KeepsProgram old new

-- A halt is told behind what was said, and how many bytes are put out is noted.
abbrev pub IsToldHalt : Client → Halt → Client → List Said → List Said → Type 0
IsToldHalt old halt new before after
    = (after ≡ before ++ told_at old.listed old.mon old.told.count halt)
    × (new.told.count ≡ length old.mon.session.current.bus.out)
    × (new.told.reason ≡ (halt_at old.listed old.mon halt).reason)

-- The reason that is told of a session is noted.
abbrev pub NotesReason : Reason → Client → Client → Type 0
NotesReason reason old new
    = new.told.reason ≡ reason_at old.listed new.mon.session.current.regs.pc reason

-- Behind what was said before is told that the machine stands, for this reason, in these words, and
-- where a step is refused, why.
abbrev pub TellsBehind : Reason → List ℕ → Option EventFault → Client → MonState → List Said
    → List Said → Type 0
TellsBehind reason words fault old mon before said = (halt : Halt) × (halt.reason ≡ reason)
    × (halt.words.now ≡ words) × (halt.fault ≡ fault)
    × (said ≡ before ++ told_at old.listed mon old.told.count halt)

-- A request is answered, and that is told behind it.
abbrev pub TellsStand : Reason → List ℕ → Option EventFault → Client → MonState → SeenAnswer → List Said
    → Type 0
TellsStand reason words fault old mon body said
    = TellsBehind reason words fault old mon (done body ∷ []) said

-- It stands at another line.
abbrev pub TellsGone : Client → MonState → List Said → Type 0
TellsGone old mon said = TellsStand Goto GONE_TO.now None old mon nothing said
