-- Lines that go to where a line of a source begins. Source: mos65.
use Rattle.std.specs.Prelude.{ℕ, ◌==◌, ◌&&◌, nat_lt, Bool, true, false, if◌then◌else◌, List, [], ◌++◌, length, Option, Some, None, codes}
use Rattle.std.specs.List.{filter_map}
use Rattle.std.specs.Option.{option_map}
use Rattle.model.specs.State.{State}
use Rattle.line_steps.specs.Back.{events_to_line, gone_back}
use Rattle.line_steps.specs.declared.lines.FileLine.{FileLine}
use Rattle.line_steps.specs.declared.lines.LineStart.{LineStart}
use Rattle.mon_instructions.specs.Made.{line_text}
use Rattle.mon_by_line.specs.LineRuns.{line_run}
use Rattle.mon_runs.specs.Looked.{Arrival}
use Rattle.mon_runs.specs.PastBreaks.{most_steps}
use Rattle.mon_runs.specs.declared.ended.EndWhy.{EndWhy}
use Rattle.mon_runs.specs.declared.ended.EndWhy.TheVariants as end_why
use Rattle.mon_runs.specs.declared.watches.Watch.{Watch}
use Rattle.mon_session.specs.Course.{Course}
use Rattle.mon_session.specs.EventTexts.{count_text, shown_text}
use Rattle.mon_session.specs.Events.{with_undone}
use Rattle.mon_steps.specs.BackTexts.{none_held, undone_text}
use Rattle.mon_steps.specs.Reasons.{after_text}
use Rattle.mon_steps.specs.RunLines.{Stand, arrived, start_of}
use Rattle.mon_steps.specs.RunTexts.{begun_at, shown_end_text, since_text}
use Rattle.mon_steps.specs.Strays.{ended_text}
use Rattle.mon_steps.specs.declared.endings.Begun.{Begun}
use Rattle.mon_steps.specs.declared.wording.TheConstants.{BACK_AT_OLDEST, EVENTS_UNDONE, EVENT_UNDONE, HERE}
use Rattle.mon_texts.specs.declared.wording.TheConstants.{NO_SOURCE}
use Rattle.source_map.specs.Lines.{PlacesView, row_at, site_words, text_of, texts_at}
use Rattle.source_map.specs.declared.rows.Row.{Row}

-- ---- lines

-- The line of a row.
abbrev pub line_of : Row → FileLine
line_of row = record { file = row.file; line = row.line }

-- Where the line of a row begins, if it begins with the row's bytes.
abbrev pub line_start : Row → Option LineStart
line_start row = if row.begins_line
    then Some (record { address = row.address; line = line_of row }) else None

abbrev pub line_starts : List Row → List LineStart
line_starts rows = filter_map line_start rows

-- The line whose row stands at an address, if one does.
abbrev pub line_at : List Row → ℕ → Option FileLine
line_at rows address = option_map line_of (row_at rows address)

-- Whether lines of a source are known.
abbrev pub has_lines : PlacesView → Bool
has_lines places = nat_lt 0 (length places.lines)

-- ---- what is done

-- A run from the line at the program counter to where another one begins.
abbrev pub line_arrival : List LineStart → PlacesView → List Watch → Stand → Arrival
line_arrival starts places watches stand
    = line_run starts (line_at places.lines stand.0.0.current.regs.pc) most_steps watches
    (start_of stand)

abbrev pub ran_to_line : PlacesView → List Watch → Stand → Stand
ran_to_line places watches stand = if has_lines places
    then arrived (line_arrival (line_starts places.lines) places watches stand) stand else stand

-- As many events are undone as lead back to where a line begins.
abbrev pub undone_to_line : List LineStart → Course → Course
undone_to_line starts course = let count = events_to_line starts course.0 in
    (gone_back count course.0, with_undone count course.1)

abbrev pub undone_if_held : PlacesView → Course → Course
undone_if_held places course = if has_lines places && nat_lt 0 (length course.0.earlier)
    then undone_to_line (line_starts places.lines) course else course

-- ---- what is said

-- That no lines are known.
abbrev pub no_lines : List ℕ
no_lines = NO_SOURCE.now ++ codes "\n"

-- The text of a line, if it is known.
abbrev pub known_text : Option (List ℕ) → List ℕ
known_text None = []
known_text (Some text) = codes "  " ++ (line_text text ++ codes "\n")

abbrev pub source_text : PlacesView → Option Row → List ℕ
source_text places None = []
source_text places (Some row) = known_text (text_of (texts_at places.sources row.file) row.line)

-- The line of a row: `bank.c:16`.
abbrev pub place_of : PlacesView → Option Row → List ℕ
place_of places None = []
place_of places (Some row) = site_words places.sources row

-- The row at the program counter.
abbrev pub row_here : State → PlacesView → Option Row
row_here state places = row_at places.lines state.regs.pc

-- That the session is at a line now.
abbrev pub here_text : State → PlacesView → List ℕ
here_text state places = HERE.now ++ place_of places (row_here state places)

-- That a run came to a line, with its text.
abbrev pub came_text : State → PlacesView → ℕ → List ℕ
came_text state places did = here_text state places
    ++ (after_text did ++ source_text places (row_here state places))

abbrev pub is_met : EndWhy → Bool
is_met end_why.Met = true
is_met why = false

-- How a run to a line has ended, and what it led to.
abbrev pub line_end_text : PlacesView → Begun → Arrival → List ℕ
line_end_text places begun arrival = let state = arrival.1.0.current in
    if is_met arrival.0.why
    then came_text state places arrival.0.did ++ since_text state places.names begun
    else shown_end_text state places arrival.0 begun

-- A run to where another line begins.
abbrev pub run_by_line_text : List LineStart → List Watch → PlacesView → Stand → List ℕ
run_by_line_text starts watches places stand = ended_text stand.0.0.current places
    ++ line_end_text places (begun_at stand) (line_arrival starts places watches stand)

abbrev pub line_run_text : List Watch → PlacesView → Stand → List ℕ
line_run_text watches places stand = if has_lines places
    then run_by_line_text (line_starts places.lines) watches places stand else no_lines

-- How many events were undone, and the line that they led to.
abbrev pub back_here_text : ℕ → State → PlacesView → List ℕ
back_here_text count state places = here_text state places ++ (codes ", "
    ++ (count_text count EVENT_UNDONE.now EVENTS_UNDONE.now
    ++ (source_text places (row_here state places) ++ shown_text state places.names None)))

-- The same, where all events that were held were undone.
abbrev pub back_text : ℕ → ℕ → State → PlacesView → List ℕ
back_text count held state places = if count == held
    then BACK_AT_OLDEST.now ++ (codes ", " ++ undone_text count state places)
    else back_here_text count state places

-- Events are undone back to where a line begins.
abbrev pub line_back_text : PlacesView → Course → List ℕ
line_back_text places course =
    let after = undone_to_line (line_starts places.lines) course in
    if has_lines places then (if length course.0.earlier == 0 then none_held
    else back_text (events_to_line (line_starts places.lines) course.0)
    (length course.0.earlier) after.0.current places) else no_lines
