-- What the word `mon` did, by its exit status. Source: mos65.
use Rattle.std.specs.Prelude.{◌≡◌, ◌⊎◌, ⊤, ℕ, Bool, true, List, [], ◌++◌, Option, Some, None, Result, Ok, Err}
use Rattle.std.specs.Io.KnownBytes.{Appends}
use Rattle.arguments.specs.Asked.{FileAsked}
use Rattle.arguments.specs.FaultLines.{fault_line, file_line}
use Rattle.arguments.specs.Statuses.{status_of}
use Rattle.arguments.specs.declared.refusal.ReadFault.TheVariants.{Other}
use Rattle.arguments.specs.declared.refusal.Refusal.{Refusal}
use Rattle.arguments.specs.declared.refusal.Refusal.TheVariants.{OutOfMemory, Read, Write}
use Rattle.arguments_play.specs.Mon.{MonAsked, mon_view}
use Rattle.clap.specs.Words.{Text}
use Rattle.debug_files.specs.Loaded.{IsUndebugged}
use Rattle.loading.specs.Loads.{EndsNames}
use Rattle.loading.specs.Machine.{AreUnloaded}
use Rattle.loading.specs.Told.{Heard, Tells}
use Rattle.word_mon.specs.Attended.{AttendsInPart, IsAttended, IsAttendedSoFar}
use Rattle.word_mon.specs.Greeting.{greeting_of, has_image}
use Rattle.word_mon.specs.Screens.{drawn}
use Rattle.word_mon.specs.Starts.{StartsMon}
use Rattle.word_mon.specs.Views.{IsSizeFor}
use Rattle.word_mon.specs.declared.terminal.Terminal.{Terminal}
use Rattle.mon_screen.specs.Stored.{first_stretch}
use Rattle.mon_screen.specs.declared.view.View.{View}
use Rattle.mon_session.specs.EventTexts.{shown_text}
use Rattle.mon_session.specs.declared.mon_state.MonState.{MonState}

-- The file of names was not assembled, the error stream got why, and the others were left alone,
-- `Alone`.
abbrev pub IsUnnamed : Option Text → FileAsked → Heard → ℕ → Type 0 → Type 0
IsUnnamed None file heard status Alone = ⊥
IsUnnamed (Some path) file heard status Alone = (fault : Refusal) × EndsNames file fault
    × (status ≡ status_of fault) × Tells heard (file_line path fault) × Alone

abbrev pub IsUnstarted : MonAsked → Heard → ℕ → Type 0 → Type 0
IsUnstarted asked heard status Alone = IsUnnamed asked.symbols asked.file heard status Alone
    ⊎ IsUndebugged asked.debug_info heard.held heard.now status Alone

-- Why a session ends before its input does.
abbrev pub EndsSession : Refusal → Type 0
EndsSession OutOfMemory = ⊤
EndsSession (Read Other) = ⊤
EndsSession Write = ⊤
EndsSession fault = ⊥

-- Why a line is not answered: memory ran out, or the answer could not be written.
abbrev pub EndsAnswer : Refusal → Type 0
EndsAnswer OutOfMemory = ⊤
EndsAnswer Write = ⊤
EndsAnswer fault = ⊥

-- A screen is drawn only if the words ask for one, and at first nothing has changed.
abbrev pub StartsView : MonAsked → MonState → Option View → Type 0
StartsView asked mon None = ⊤
StartsView asked mon (Some view) = (asked.has_screen ≡ true) × IsSizeFor asked.size view.size
    × (view.stretch ≡ first_stretch mon.session.current.bus.map mon.places.lines)
    × (view.regs ≡ mon.session.current.regs)
    × (view.cycles ≡ None) × (view.skipped ≡ 0)

-- What is written first: the greeting, with the line that tells of warnings, and the state, or a
-- screen with both.
abbrev pub opening : Bool → List ℕ → Terminal → List ℕ
opening prompts warning_line terminal = drawn terminal.view terminal.mon (terminal.mon.text.items
    ++ (greeting_of prompts
    (has_image terminal.words.now.file.form terminal.words.now.others.second)
    terminal.mon.session.current terminal.mon.places.names warning_line
    ++ shown_text terminal.mon.session.current terminal.mon.places.names None))

-- What a session at a terminal wrote of what it read, behind what is shown first, by how it ended.
-- `Ok`: its lines were served up to `quit` or to the end of the input, and what is said of them was
-- written. `Read`: the complete lines that were read were served, and what is said of them was
-- written. `Write` and `OutOfMemory`: a beginning was written of what is said of lines that were
-- read. It ends with no other fault.
abbrev pub Attends : {X : Type 0} → Bool → List ℕ → Terminal → Option (List ℕ) → Option (List ℕ)
    → Option (List ℕ) → Option (List ℕ) → Result X Refusal → Type 0
Attends prompts shown first given left held now (Ok done) = (last : Terminal) × (written : List ℕ)
    × IsAttended prompts given left first last written × Appends held now (shown ++ written)
Attends prompts shown first given left held now (Err (Read Other)) = (last : Terminal)
    × (written : List ℕ) × IsAttendedSoFar prompts given left first last written
    × Appends held now (shown ++ written)
Attends prompts shown first given left held now (Err Write)
    = AttendsInPart prompts shown first given left held now
Attends prompts shown first given left held now (Err OutOfMemory)
    = AttendsInPart prompts shown first given left held now
Attends prompts shown first given left held now (Err fault) = ⊥

-- The exit status is 0, or that of the fault, which the error stream got.
abbrev pub TellsEnd : {X : Type 0} → Heard → ℕ → Result X Refusal → Type 0
TellsEnd heard status (Ok done) = status ≡ 0
TellsEnd heard status (Err fault) = (status ≡ status_of fault) × Tells heard (fault_line fault)

-- A session ended at a terminal, as the status says. Its greeting has this line of warnings.
abbrev pub EndsAt : Bool → List ℕ → Terminal → Option (List ℕ) → Option (List ℕ) → Option (List ℕ)
    → Option (List ℕ) → Heard → ℕ → Type 0
EndsAt prompts warning_line first given left held now heard status = (outcome : Result ⊤ Refusal)
    × Attends prompts (opening prompts warning_line first) first given left held now outcome
    × TellsEnd heard status outcome

-- What was done for words: no session began, and the streams were left alone, `Alone`; or one began
-- at its terminal, with some input given, and ended so, with some input left. Prompts are written if
-- the words ask for them, or if the input is typed; screens only if the words ask for them.
abbrev pub IsDone : MonAsked → Option (List ℕ) → Option (List ℕ) → Option (List ℕ)
    → Option (List ℕ) → Heard → ℕ → Type 0 → Type 0
IsDone asked given left old new heard status Alone
    = AreUnloaded asked.file asked.others heard status Alone
    ⊎ (IsUnstarted asked heard status Alone
    ⊎ ((terminal : Terminal) × (warning_line : List ℕ)
    × StartsMon asked terminal.mon terminal.loaded warning_line
    × (terminal.notes.items ≡ []) × (terminal.answered.items ≡ [])
    × (mon_view terminal.words.now ≡ asked) × StartsView asked terminal.mon terminal.view
    × (prompts : Bool) × (asked.prompts ≡ true → prompts ≡ true)
    × EndsAt prompts warning_line terminal given left old new heard status))
