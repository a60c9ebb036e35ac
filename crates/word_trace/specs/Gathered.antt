-- What a trace gathers of a step: what it counts, which addresses it holds for written, and the
-- text that comes of it. Source: mos65.
use Rattle.std.specs.Prelude.{◌≡◌, ⊤, ℕ, ◌+◌, ◌-◌, Bool, true, false, not, ◌&&◌, ◌||◌, if◌then◌else◌, List, [], ◌∷◌, ◌++◌, Option, None, Some, is_some, slice_set, option_map}
use Rattle.std.specs.Io.KnownBytes.{Appends}
use Rattle.std.specs.List.{flat_map}
use Rattle.accesses.specs.Footprint.{reads_here, stores_here}
use Rattle.accesses.specs.Moments.{entered, moment_of}
use Rattle.accesses.specs.Tallies.{Counts, no_counts, noted, saturated}
use Rattle.accesses.specs.Writing.{is_written, with_bytes}
use Rattle.accesses.specs.declared.moment.Moment.{Moment}
use Rattle.accesses.specs.declared.tally.Count.{Count}
use Rattle.arguments.specs.Asked.{FileAsked}
use Rattle.model.specs.State.{Map, State, is_port}
use Rattle.trace_rows.specs.Counts.{with_counts, nothing_counted}
use Rattle.trace_rows.specs.Findings.{finding_row}
use Rattle.trace_rows.specs.Steps.{step_row}
use Rattle.trace_rows.specs.declared.sites.Sites.{Sites}
use Rattle.trace_rows.specs.declared.steps.Step.{Step}
use Rattle.trace_rows.specs.declared.unwritten.Part.{Part}
use Rattle.trace_rows.specs.declared.unwritten.Part.TheVariants.{Code, Data, Vector}
use Rattle.arguments_play.specs.Trace.{TraceAsked, trace_view}
use Rattle.word_trace.specs.Notes.{TouchesWritten, code_of, entry_reads, if_asked, left_at}
use Rattle.word_trace.specs.declared.notes.Ahead.{Ahead}
use Rattle.word_trace.specs.declared.tracer.Tracer.{Tracer}

-- ---- text

-- So much text was gathered on a sheet: the front of all that the sheet had and got went to a
-- writer, and the rest is on the sheet.
pub record Gathers (held now : Option (List ℕ)) (before after text : List ℕ) : Type 0 where
  pub written : List ℕ
  pub appends : Appends held now written
  pub whole : written ++ after ≡ before ++ text

-- ---- what is counted

-- Nothing, or zeros where counts are asked for.
abbrev pub first_tally : Bool → Option Counts
first_tally false = None
first_tally true = Some (record { visits = no_counts; cycles = no_counts })

-- One step more, which took so many cycles.
abbrev pub counted : Count → ℕ → Count
counted count cycles = record {
  visits = saturated (count.visits + 1);
  cycles = saturated (count.cycles + cycles);
}

-- The cycles of a step, by the moment before it and the state after it.
abbrev pub cycles_of : Moment → State → ℕ
cycles_of moment state = state.cycles - moment.cycles

-- An interrupt entry is counted by itself, any other step at the address of its instruction.
abbrev pub entries_with : Bool → ℕ → Count → Count
entries_with true cycles entries = counted entries cycles
entries_with false cycles entries = entries

abbrev pub tally_with : Bool → ℕ → ℕ → Option Counts → Option Counts
tally_with true address cycles tally = tally
tally_with false address cycles tally = option_map (λ counts. noted counts address cycles) tally

-- ---- where nobody ever wrote

-- Whether a read is told: of an address where nobody ever wrote, if such reads are looked for. The
-- port's bytes come from outside.
abbrev pub is_told : Map → Option (List Bool) → ℕ → Bool
is_told map None address = false
is_told map (Some cells) address = not (is_port map address) && not (is_written cells address)

-- Addresses more that count as written.
abbrev pub with_written : Option (List Bool) → ℕ → Option (List Bool)
with_written written address = option_map (λ cells. slice_set cells address true) written

abbrev pub with_all_written : Option (List Bool) → List ℕ → Option (List Bool)
with_all_written written addresses = option_map (λ cells. with_bytes cells addresses) written

-- Of the addresses that are read, those that are told. Each is told once: it counts as written from
-- then on.
unfoldable pub told : Map → Option (List Bool) → List ℕ → List ℕ
told map written [] = []
told map written (address ∷ addresses) = if is_told map written address
    then address ∷ told map (with_written written address) addresses
    else told map written addresses

abbrev pub with_told : Map → Option (List Bool) → List ℕ → Option (List Bool)
with_told map written addresses = with_all_written written (told map written addresses)

-- The rows of reads at addresses where nobody ever wrote, in a step of such a number.
abbrev pub findings : State → Sites → Moment → ℕ → Part → List ℕ → List ℕ
findings state sites moment number part addresses = flat_map (λ address. finding_row state sites
    moment (record { step = number; address = address; part = part })) addresses

-- ---- a step

-- An interrupt entry has read its vector, any other step its instruction and then its data.
abbrev pub with_reads : Bool → Map → Ahead → Option (List Bool) → Option (List Bool)
with_reads true map ahead written = with_told map written entry_reads
with_reads false map ahead written
    = with_told map (with_told map written (code_of ahead.moment)) ahead.reads.items

abbrev pub reads_text : Bool → State → Sites → ℕ → Ahead → Option (List Bool) → List ℕ
reads_text true state sites number ahead written
    = findings state sites ahead.moment number Vector (told state.bus.map written entry_reads)
reads_text false state sites number ahead written
    = findings state sites ahead.moment number Code
    (told state.bus.map written (code_of ahead.moment))
    ++ findings state sites ahead.moment number Data (told state.bus.map
    (with_told state.bus.map written (code_of ahead.moment)) ahead.reads.items)

abbrev pub step_of : State → FileAsked → Bool → Ahead → Step
step_of state file is_entry ahead = record {
  moment = ahead.moment;
  is_entry = is_entry;
  stores = record { items = left_at state file is_entry ahead };
}

-- The row of a step, unless counts or unwritten memory are asked for in its place.
abbrev pub row_text : TraceAsked → State → Sites → Step → List ℕ
row_text asked state sites step = if asked.counts || asked.finds_unwritten then []
    else step_row state sites step asked.shows_stores

-- ---- all that was gathered

-- What a tracer has gathered beside text, by what is asked for and the sites of the program.
pub record Gathered : Type 0 where
  pub asked : TraceAsked
  pub sites : Sites
  pub tally : Option Counts
  pub written : Option (List Bool)
  pub entries : Count
  pub all : Count

abbrev pub gathered : Tracer → Gathered
gathered t = record {
  asked = trace_view t.words.now;
  sites = t.sites;
  tally = t.tally;
  written = t.written;
  entries = t.entries;
  all = t.all;
}

-- Nothing yet.
abbrev pub none_gathered : TraceAsked → Sites → Option (List Bool) → Gathered
none_gathered asked sites written = record {
  asked = asked;
  sites = sites;
  tally = first_tally asked.counts;
  written = written;
  entries = nothing_counted;
  all = nothing_counted;
}

-- What a step touches is asked for where it is shown or looked at.
abbrev pub asks_ahead : Gathered → Bool
asks_ahead g = g.asked.shows_stores || is_some g.written

-- What is known of a step before it is made.
abbrev pub ahead_of : Gathered → State → Ahead
ahead_of g state = record {
  moment = moment_of state;
  reads = record { items = if_asked (asks_ahead g) (reads_here state) };
  stores = record { items = if_asked (asks_ahead g) (stores_here state) };
}

-- With these addresses written, and all else as it was.
abbrev pub marked : Option (List Bool) → Gathered → Gathered
marked written g = record g { written = written }

-- A step is counted: an interrupt entry, or an instruction at an address.
abbrev pub counted_step : Bool → ℕ → ℕ → Gathered → Gathered
counted_step is_entry address cycles g = record g {
  tally = tally_with is_entry address cycles g.tally;
  entries = entries_with is_entry cycles g.entries;
  all = counted g.all cycles;
}

-- ---- a step, by the state after it

-- A step that is passed over: where it has left bytes counts as written.
abbrev pub passed : State → Ahead → Gathered → Gathered
passed state ahead g = marked (with_all_written g.written
    (left_at state g.asked.file (entered ahead.moment state) ahead)) g

-- A step that is noted is counted.
abbrev pub counted_here : State → Ahead → Gathered → Gathered
counted_here state ahead g = counted_step (entered ahead.moment state) ahead.moment.regs.pc
    (cycles_of ahead.moment state) g

-- So is it noted where it has read, if that is told, and where it has left bytes.
abbrev pub noted_here : State → Ahead → Gathered → Gathered
noted_here state ahead g = marked (with_all_written
    (with_reads (entered ahead.moment state) state.bus.map ahead g.written)
    (left_at state g.asked.file (entered ahead.moment state) ahead))
    (counted_here state ahead g)

-- The text of a step: of its reads, and its row.
abbrev pub text_of_step : State → Ahead → Gathered → List ℕ
text_of_step state ahead g = reads_text (entered ahead.moment state) state g.sites
    (counted_here state ahead g).all.visits ahead g.written
    ++ row_text g.asked state g.sites
    (step_of state g.asked.file (entered ahead.moment state) ahead)

-- ---- a step that is counted and no more

-- All that the instruction at PC touches counts as written, if reads of other addresses are looked
-- for.
abbrev pub TouchesNoOther : Option (List Bool) → State → Type 0
TouchesNoOther None state = ⊤
TouchesNoOther (Some cells) state = TouchesWritten cells state

-- No row is asked for.
abbrev pub has_no_rows : TraceAsked → Bool
has_no_rows asked = asked.counts || asked.finds_unwritten

-- ---- the end

-- A text with the counts behind it, if they are asked for.
abbrev pub ended_text : Sites → Option Counts → Count → Count → List ℕ → List ℕ
ended_text sites None entries all text = text
ended_text sites (Some counts) entries all text = with_counts sites counts entries all text

abbrev pub text_at_end : Gathered → List ℕ → List ℕ
text_at_end g text = ended_text g.sites g.tally g.entries g.all text
