-- The rows of a screen. Source: mos65.
use Rattle.std.specs.Prelude.{ℕ, ◌+◌, ◌-◌, ◌*◌, ◌/◌, min, nat_lt, Bool, decimal, if◌then◌else◌, List, ◌++◌, Option, None, Some}
use Rattle.model.specs.State.{State}
use Rattle.model.specs.declared.registers.Regs.{Regs}
use Rattle.mon_lines.specs.declared.command.Stretch.{Stretch}
use Rattle.mon_texts.specs.Memory.{memory_text}
use Rattle.mon_texts.specs.Registers.{state_line}
use Rattle.mon_texts.specs.Screen.{screen_text}
use Rattle.mon_texts.specs.Stack.{stack_text}
use Rattle.source_map.specs.Lines.{PlacesView}
use Rattle.mon_screen.specs.Around.{around_text}
use Rattle.mon_screen.specs.Cells.{behind_lines, beside, block, line_count, titled, written}
use Rattle.mon_screen.specs.Marks.{marks_line}
use Rattle.mon_screen.specs.declared.size.Size.{Size}
use Rattle.mon_screen.specs.declared.view.View.{View}
use Rattle.mon_screen.specs.declared.wording.TheConstants.{ANSWER, CLEAR, CONSOLE, OF, SHOWN, TURN}

-- ---- how many rows each part has, of a screen of so many rows

-- The program and the stack.
abbrev pub middle_rows : ℕ → ℕ
middle_rows rows = 8 + (rows - 24) / 2

-- Each of two parts of memory, and the console's output.
abbrev pub part_rows : ℕ → ℕ
part_rows rows = 2 + (rows - 24) / 8

-- What the last line was answered with.
abbrev pub answer_rows : ℕ → ℕ
answer_rows rows = rows - 5 - middle_rows rows - 3 * part_rows rows

-- ---- the parts

-- The cycles before the last line, unless they are more than now: then the line went back.
abbrev pub cycles_before : Option ℕ → ℕ → Option ℕ
cycles_before None now = None
cycles_before (Some before) now = if nat_lt now before then None else Some before

-- Registers, flags and cycles.
abbrev pub state_row : View → State → PlacesView → List (List ℕ)
state_row view state places = block 1 view.size.columns
    (state_line state places.names (cycles_before view.cycles state.cycles))

-- What has changed of them.
abbrev pub marks_row : View → Regs → List (List ℕ)
marks_row view now = block 1 view.size.columns (marks_line view.regs now)

abbrev pub registers_block : View → State → PlacesView → List (List ℕ)
registers_block view state places = state_row view state places ++ marks_row view state.regs

-- How wide the stack is: half of a screen, but no more than its rows need.
abbrev pub stack_columns : ℕ → ℕ
stack_columns columns = min (columns / 2) 50

-- The program around PC, and beside it the stack.
abbrev pub middle_block : Size → State → PlacesView → List (List ℕ)
middle_block size state places
    = beside (middle_rows size.rows) (size.columns - stack_columns size.columns)
    (stack_columns size.columns)
    (around_text (middle_rows size.rows) state places) (stack_text state places)

-- The beginning of a stretch of memory.
abbrev pub stretch_block : Size → List ℕ → Stretch → List (List ℕ)
stretch_block size memory stretch
    = block (part_rows size.rows) size.columns (memory_text memory stretch)

-- That of page zero, and that of the memory that was asked for last.
abbrev pub memory_block : View → List ℕ → List (List ℕ)
memory_block view memory = stretch_block view.size memory (record { first = 0; last = 255 })
    ++ stretch_block view.size memory view.stretch

-- The last lines of the console's output.
abbrev pub console_block : Size → List ℕ → List (List ℕ)
console_block size output
    = titled (part_rows size.rows) size.columns CONSOLE.now (screen_text output)

-- How many lines of what the last line was answered with stand on the page and on those before.
abbrev pub turned : View → ℕ
turned view = view.skipped + answer_rows view.size.rows

-- Whether it has lines that stand on no page so far.
abbrev pub has_more : View → List ℕ → Bool
has_more view said = nat_lt (turned view) (line_count said)

-- How many stand before the next page. Numbers have 32 bits.
abbrev pub next_skipped : View → ℕ
next_skipped view = min (turned view) 4294967295

-- What stands above it: how many of its lines were shown, if there are more.
abbrev pub share_text : ℕ → ℕ → List ℕ
share_text shown count = decimal shown ++ (OF.now ++ decimal count)

unfoldable pub more_title : ℕ → ℕ → List ℕ
more_title shown count = ANSWER.now ++ (SHOWN.now ++ (share_text shown count ++ TURN.now))

abbrev pub answer_title : View → List ℕ → List ℕ
answer_title view said = if has_more view said then more_title (turned view) (line_count said)
    else ANSWER.now

-- A page of it: the lines behind those on the pages before.
abbrev pub answer_block : View → List ℕ → List (List ℕ)
answer_block view said = block 1 view.size.columns (answer_title view said)
    ++ block (answer_rows view.size.rows) view.size.columns (behind_lines view.skipped said)

-- ---- the screen

-- All rows but the last one, on which the next line is typed.
unfoldable pub view_rows : View → State → PlacesView → List ℕ → List (List ℕ)
view_rows view state places said = registers_block view state places
    ++ middle_block view.size state places ++ memory_block view state.bus.memory
    ++ console_block view.size state.bus.out ++ answer_block view said

-- The screen as it is written.
unfoldable pub view_text : View → State → PlacesView → List ℕ → List ℕ
view_text view state places said = CLEAR.now ++ written (view_rows view state places said)
