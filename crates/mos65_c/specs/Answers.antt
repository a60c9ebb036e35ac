-- What a status says of a session or an assembly before a call and after it. Source: mos65.
use Rattle.std.specs.Prelude.{ℕ, ℤ, ◌≡◌, ◌≢◌, ◌+◌, ◌-◌, ◌<◌, ◌≤◌, ◌⊎◌, ◌++◌, false, true, List, length, drop, Option, Some, None, Result, IfErr, IfOk, IsOk, Ok, Err}
use Rattle.law_sources.specs.Judging.{too_large}
use Rattle.model.specs.State.{State, Map, has_port_byte}
use Rattle.model.specs.Event.{event_of, start}
use Rattle.model.specs.FaultNames.{event_fault_number, session_fault_number, source_fault_number}
use Rattle.model.specs.Layout.{Context, IsLaidOut, PlacedLine}
use Rattle.model.specs.Listing.{IsListing}
use Rattle.model.specs.Session.{Session, new_session, with_state}
use Rattle.model.specs.Source.{Denotes, HasFault, first_context, read_lines}
use Rattle.model.specs.Tape.{FirstFault, TapeDenotes}
use Rattle.model.specs.TapeFault.{tape_fault_number}
use Rattle.model.specs.TapeFault.{out_of_memory as no_memory}
use Rattle.model.specs.declared.event.Event.{Event}
use Rattle.model.specs.declared.event.EventFault.{EventFault}
use Rattle.model.specs.declared.run_end.RunEnd.{RunEnd}
use Rattle.model.specs.declared.session_fault.SessionFault.{SessionFault}
use Rattle.model.specs.declared.source_fault.AsmFault.{AsmFault}
use Rattle.model.specs.declared.tape.TapeFault.{TapeFault}
use Rattle.assembler.specs.Assembly.{AssemblyView, IsImageOrMemory, listing_of, out_of_memory}
use Rattle.assembler.specs.Lines.{LineView}
use Rattle.clean_source.specs.Cleaned.{cleaned}
use Rattle.mos65_c.specs.declared.config.Config.{Config}
use Rattle.mos65_c.specs.declared.ending.Called.{Called}
use Rattle.mos65_c.specs.declared.ending.Ending.{Ending}
use Rattle.mos65_c.specs.declared.lines.Line.{Line}
use Rattle.mos65_c.specs.declared.names.Fault.{Fault}
use Rattle.mos65_c.specs.Status.{config_map, config_status, ending_of, registers_of}

-- ---- events, runs and calls

-- 0: the event was accepted, and its state is the current one. Else it was refused with the fault
-- of that number, and nothing is changed.
pub record AnswersEvent (s : Session) (event : Event) (status : ℕ) (now : Option Session) : Type 0
  where
    pub ok : status ≡ 0
        → (state : State) × (event_of s.current event ≡ Ok state)
        × (now ≡ Some (with_state s state))
    pub err : status ≢ 0 → (fault : EventFault) × (event_of s.current event ≡ Err fault)
        × (now ≡ Some s) × (status ≡ 100 + event_fault_number fault)

-- 0: the session is the changed one. Else the change was refused with the fault of that number, and
-- nothing is changed.
pub record AnswersChange (given : Result Session SessionFault) (s : Session) (status : ℕ)
    (now : Option Session) : Type 0 where
  pub ok : status ≡ 0 → (t : Session) × (given ≡ Ok t) × (now ≡ Some t)
  pub err : status ≢ 0 → (fault : SessionFault) × (given ≡ Err fault) × (now ≡ Some s)
      × (status ≡ 200 + session_fault_number fault)

-- The same where memory may be refused too, which is 206.
pub record AnswersSetting (given : Result Session SessionFault) (s : Session) (status : ℕ)
    (now : Option Session) : Type 0 where
  pub ok : status ≡ 0 → (t : Session) × (given ≡ Ok t) × (now ≡ Some t)
  pub same : status ≢ 0 → now ≡ Some s
  pub err : status ≢ 0 → status ≢ 206
      → (fault : SessionFault) × (given ≡ Err fault) × (status ≡ 200 + session_fault_number fault)
  pub memory : status ≡ 206 → IsOk given

-- 0: the run was made, `ending` tells how it ended, and the session is the one after it. Else it
-- was refused, and nothing is changed; for memory only where the breakpoint could be set.
pub record AnswersRun (given : Result (RunEnd × Session) SessionFault)
    (set : Result Session SessionFault) (s : Session) (old : Ending) (status : ℕ) (ending : Ending)
    (now : Option Session) : Type 0 where
  pub ok : status ≡ 0 → (end : RunEnd) × (t : Session) × (given ≡ Ok (end, t))
      × (ending ≡ ending_of end) × (now ≡ Some t)
  pub same : status ≢ 0 → (now ≡ Some s) × (ending ≡ old)
  pub err : status ≢ 0 → status ≢ 206
      → (fault : SessionFault) × (given ≡ Err fault) × (status ≡ 200 + session_fault_number fault)
  pub memory : status ≡ 206 → IsOk set

-- What is told of a call that took session s to session t.
abbrev pub called_of : RunEnd → Session → Session → Called
called_of end s t = record {
  cycles = t.current.cycles - s.current.cycles;
  registers = registers_of t.current;
  ending = ending_of end;
}

-- The same for a call with registers, whose registers and cycles are told too.
pub record AnswersCall (given : Result (RunEnd × Session) SessionFault)
    (set : Result Session SessionFault) (s : Session) (old : Called) (status : ℕ) (called : Called)
    (now : Option Session) : Type 0 where
  pub ok : status ≡ 0 → (end : RunEnd) × (t : Session) × (given ≡ Ok (end, t))
      × (called ≡ called_of end s t) × (now ≡ Some t)
  pub same : status ≢ 0 → (now ≡ Some s) × (called ≡ old)
  pub err : status ≢ 0 → status ≢ 206
      → (fault : SessionFault) × (given ≡ Err fault) × (status ≡ 200 + session_fault_number fault)
  pub memory : status ≡ 206 → IsOk set

-- ---- machines opened

-- A closed machine opened with an image, under a map. 0: the session starts with it. 205: the image
-- has a byte at the port. Else memory was refused, which is 3 or 206. But for 0 the machine is
-- closed as before.
pub record AnswersStart (map : Map) (history : ℕ) (image : List (Option ℕ)) (status : ℕ)
    (now : Option Session) : Type 0 where
  pub ok : status ≡ 0 → now ≡ Some (new_session history (start map image))
  pub same : status ≢ 0 → now ≡ None
  pub right : has_port_byte map image ≡ false → status ≢ 3 → status ≢ 206 → status ≡ 0
  pub port : has_port_byte map image ≡ true → status ≢ 3 → status ≢ 206 → status ≡ 205

-- The same under a configuration, which is refused before anything else.
pub record AnswersOpening (c : Config) (image : List (Option ℕ)) (status : ℕ)
    (now : Option Session) : Type 0 where
  pub refused : config_status c ≢ 0 → (status ≡ config_status c) × (now ≡ None)
  pub started : config_status c ≡ 0 → AnswersStart (config_map c) c.history image status now

-- ---- sources and tapes

abbrev pub no_fault : Fault
no_fault = record { status = 0; line = 0; offset = 0 }

-- What is told of a source's fault, and of a tape's.
abbrev pub source_fault : AsmFault → Fault
source_fault f = record { status = 300 + source_fault_number f.kind; line = f.line; offset = 0 }

abbrev pub tape_fault : TapeFault → Fault
tape_fault f = record { status = 400 + tape_fault_number f.kind; line = 0; offset = f.offset }

-- A refusal is told: the status is its own.
abbrev pub Tells : Fault → ℕ → Fault → Type 0
Tells told status fault = (status ≡ told.status) × (fault ≡ told)

-- What an assembly of a text is: its image is what the text denotes, and its listing and its names
-- are the text's.
pub record IsAssembly (map : Map) (text : List ℕ) (x : AssemblyView) : Type 0 where
  pub image : Denotes map text x.image
  pub listed : IsListing map text (listing_of x)
  pub names : (placed : List PlacedLine) (all : Context)
      → IsLaidOut (first_context map.profile) (read_lines map.profile text) placed all
      → x.names ≡ all.names

-- What comes of a text: its assembly, or its fault, unless memory was refused.
pub record AssemblesText (map : Map) (text : List ℕ) (result : Result AssemblyView AsmFault) : Type 0
  where
    pub ok : IfOk result (IsAssembly map text)
    pub only : (image : List (Option ℕ)) → Denotes map text image → IsImageOrMemory result image
    pub refused : IfErr result (λ f. (f ≡ out_of_memory) ⊎ HasFault map text f)
    pub faulty : (f : AsmFault) → HasFault map text f
        → (result ≡ Err f) ⊎ (result ≡ Err out_of_memory)

-- A source assembled for a configuration that nothing refuses. What is assembled is the text that is
-- read in its place (`cleaned`). 0: the assembly is that text's. 3: memory was refused. Else a fault
-- is told: the text's, or 399, which is that memory was refused. A source that is too large is told
-- so in any case.
pub record AnswersSource (map : Map) (source : List ℕ) (status : ℕ) (fault : Fault)
    (now : Option AssemblyView) : Type 0 where
  pub ok : status ≡ 0
      → (fault ≡ no_fault) × (x : AssemblyView) × (now ≡ Some x) × IsAssembly map (cleaned source) x
  pub same : status ≢ 0 → now ≡ None
  pub memory : status ≡ 3 → fault ≡ no_fault
  pub refused : status ≢ 0 → status ≢ 3 → (f : AsmFault)
      × ((f ≡ out_of_memory) ⊎ HasFault map (cleaned source) f) × Tells (source_fault f) status fault
  pub right : (image : List (Option ℕ)) → Denotes map (cleaned source) image
      → status ≢ 0 → status ≢ 3 → Tells (source_fault out_of_memory) status fault
  pub faulty : (f : AsmFault) → HasFault map (cleaned source) f
      → Tells (source_fault f) status fault ⊎ Tells (source_fault out_of_memory) status fault
  pub large : 1048576 < length source → Tells (source_fault too_large) status fault

-- A closed machine opened with a tape, under a map. The machine starts with the tape's image, and
-- no fault is told; or a fault is told: the text's first one, or 409, which is that memory was
-- refused.
pub record AnswersTape (map : Map) (history : ℕ) (tape : List ℕ) (status : ℕ) (fault : Fault)
    (now : Option Session) : Type 0 where
  pub ok : status ≡ 0 → (fault ≡ no_fault) × (image : List (Option ℕ)) × TapeDenotes tape image
      × (now ≡ Some (new_session history (start map image)))
  pub same : status ≢ 0 → now ≡ None
  pub right : (image : List (Option ℕ)) → TapeDenotes tape image
      → ((fault ≡ no_fault) × AnswersStart map history image status now)
      ⊎ Tells (tape_fault no_memory) status fault
  pub faulty : (f : TapeFault) → FirstFault tape f.kind f.offset
      → Tells (tape_fault f) status fault ⊎ Tells (tape_fault no_memory) status fault

-- ---- names and texts

-- A name's number is told, or there is no such name.
abbrev pub AnswersName : Option ℤ → ℕ → ℤ → ℤ → Type 0
AnswersName (Some number) status old new = (status ≡ 0) × (new ≡ number)
AnswersName None status old new = (status ≡ 4) × (new ≡ old)

-- A text stands at the beginning of some room, and the rest of the room is as before.
abbrev pub written : List ℕ → List ℕ → List ℕ
written text room = text ++ drop (length text) room

-- A name and its number are told; 2 where the room is too small for the name, 4 where there is no
-- such name, and nothing is told then.
abbrev pub AnswersEntry : Option (List ℕ × ℤ) → List ℕ → ℕ → ℤ → ℕ → List ℕ → ℕ → ℤ → Type 0
AnswersEntry None room count value status name n number
    = (status ≡ 4) × (name ≡ room) × (n ≡ count) × (number ≡ value)
AnswersEntry (Some entry) room count value status name n number
    = (length entry.0 ≤ length room → (status ≡ 0) × (name ≡ written entry.0 room)
    × (n ≡ length entry.0) × (number ≡ entry.1))
    × (length room < length entry.0
    → (status ≡ 2) × (name ≡ room) × (n ≡ count) × (number ≡ value))

-- What is told of a line beside its text.
abbrev pub told_of : LineView → Line
told_of line = record {
  number = line.number;
  address = line.address;
  count = line.count;
  is_instruction = line.is_instruction;
}

-- A line and its text are told; 2 where the room is too small for the text, 5 where there is no such
-- line, and nothing is told then.
abbrev pub AnswersLine : Option LineView → Line → List ℕ → ℕ → ℕ → Line → List ℕ → ℕ → Type 0
AnswersLine None old room count status line text n
    = (status ≡ 5) × (line ≡ old) × (text ≡ room) × (n ≡ count)
AnswersLine (Some found) old room count status line text n
    = (length found.text ≤ length room → (status ≡ 0) × (line ≡ told_of found)
    × (text ≡ written found.text room) × (n ≡ length found.text))
    × (length room < length found.text
    → (status ≡ 2) × (line ≡ old) × (text ≡ room) × (n ≡ count))
