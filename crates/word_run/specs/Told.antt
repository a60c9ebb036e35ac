-- What the error stream gets of a run: why it did not come to its end, and its cycles and steps.
-- Source: mos65.
use Rattle.std.specs.Prelude.{◌≡◌, ◌⊎◌, ℕ, ◌==◌, List, [], ◌++◌, codes, decimal, if◌then◌else◌, is_some, Option, Some, None}
use Rattle.arguments.specs.FaultLines.{line_of}
use Rattle.console.specs.declared.ending.Ending.{Ending}
use Rattle.console.specs.declared.ending.Ending.TheVariants.{Limit, Unwritten, NoReset, NoVector, Refused}
use Rattle.model.specs.FaultTexts.{event_fault_text}
use Rattle.model.specs.Text.{hex_address, hex_byte}
use Rattle.model.specs.declared.event.EventFault.{EventFault}
use Rattle.model.specs.declared.event.EventFault.TheVariants.{ConsoleFull, Undocumented}
use Rattle.word_run.specs.declared.wording.TheConstants.{AFTER, AFTER_CYCLES, BREAK_AT, CONSOLE_FULL, CYCLES, CYCLES_END, FROM, INTERRUPTED, NO_FILE, NO_INSTRUCTION, NO_LINE, NO_PLACE, NO_RESET, NO_VECTOR, PROGRAM, RAN_INTO, STEP, STEPS, STOPPED, UNWRITTEN}
use Rattle.mon_line_parts.specs.SourceLines.{line_number, own_line}
use Rattle.source_map.specs.Lines.{PlacesView, address_from, line_words, row_at}
use Rattle.source_map.specs.Names.{Near, name_near}

abbrev pub step_word : ℕ → List ℕ
step_word steps = if steps == 1 then STEP.now else STEPS.now

-- Where a run stopped.
abbrev pub stop_text : ℕ → List ℕ
stop_text pc = STOPPED.now ++ hex_address pc

-- Where a run was rejected: at its program counter, or at that of the fault.
abbrev pub refused_address : EventFault → ℕ → ℕ
refused_address (Undocumented opcode at) pc = at
refused_address fault pc = pc

-- Why a run was rejected, as the line ends.
abbrev pub refused_text : EventFault → List ℕ
refused_text ConsoleFull = CONSOLE_FULL.now
refused_text (Undocumented opcode at) = codes ": " ++ hex_byte opcode ++ NO_INSTRUCTION.now
refused_text fault = codes ": " ++ event_fault_text fault ++ codes "\n"

-- Where and why a run was rejected. `site` is what is said of the program counter.
unfoldable pub refused_line : List ℕ → EventFault → ℕ → List ℕ
refused_line site fault pc
    = stop_text (refused_address fault pc) ++ (site ++ refused_text fault)

-- ---- an address by its name and its line

-- How far behind a name an address is.
abbrev pub distance_text : ℕ → List ℕ
distance_text distance = if distance == 0 then [] else codes "+" ++ decimal distance

-- A name and how far behind it an address is.
abbrev pub name_words : Near → List ℕ
name_words None = []
name_words (Some (name, distance)) = codes " " ++ (name ++ distance_text distance)

-- What is known of an address, as ` next+4, first.a65:6`.
abbrev pub site_text : PlacesView → ℕ → List ℕ
site_text places address = name_words (name_near places.names address)
    ++ line_words places.sources (row_at places.lines address)

-- What is said of an address: nothing where nothing is known, nor where memory runs out.
abbrev pub IsSite : Option PlacesView → ℕ → List ℕ → Type 0
IsSite None address site = site ≡ []
IsSite (Some places) address site = (site ≡ site_text places address) ⊎ (site ≡ [])

-- ---- the end

-- The address of which an ending says where it is in the source: that of the last instruction, or
-- of the next one.
abbrev pub place_of_ending : Ending → ℕ → ℕ
place_of_ending (Unwritten (Some from)) pc = from
place_of_ending ending pc = pc

-- Where nothing was ever written.
abbrev pub stray_text : ℕ → List ℕ
stray_text pc = RAN_INTO.now ++ hex_address pc ++ UNWRITTEN.now

-- And the address of the last instruction.
abbrev pub came_text : ℕ → ℕ → List ℕ
came_text pc from = RAN_INTO.now ++ hex_address pc ++ UNWRITTEN.now ++ FROM.now ++ hex_address from

-- Where nothing was ever written, and from where the program came there. `site` is what is said of
-- that address.
unfoldable pub stray_line : Option ℕ → ℕ → List ℕ → List ℕ
stray_line None pc site = stray_text pc ++ codes "\n"
stray_line (Some from) pc site = came_text pc from ++ (site ++ codes "\n")

-- Where a BRK stands.
abbrev pub break_text : ℕ → List ℕ
break_text pc = BREAK_AT.now ++ hex_address pc

-- Why a run did not come to its end. `site` is what is said of the address of the ending.
unfoldable pub ending_line : List ℕ → Ending → ℕ → ℕ → List ℕ
ending_line site Limit steps pc
    = stop_text pc ++ (site ++ (AFTER.now ++ decimal steps ++ step_word steps))
ending_line site (Unwritten from) steps pc = stray_line from pc site
ending_line site NoReset steps pc = stray_text pc ++ NO_RESET.now
ending_line site NoVector steps pc = break_text pc ++ (site ++ NO_VECTOR.now)
ending_line site (Refused fault) steps pc = refused_line site fault pc
ending_line site ending steps pc = []

-- How many cycles and steps a run took.
abbrev pub cycles_line : ℕ → ℕ → List ℕ
cycles_line cycles steps = PROGRAM.now ++ decimal cycles ++ CYCLES.now
    ++ (decimal steps ++ step_word steps)

-- Where a run stood when it was interrupted, and at which cycle. `site` is what is said of that
-- address.
abbrev pub interrupted_text : ℕ → List ℕ
interrupted_text pc = INTERRUPTED.now ++ hex_address pc

unfoldable pub interrupted_line : List ℕ → ℕ → ℕ → List ℕ
interrupted_line site pc cycles = interrupted_text pc
    ++ (site ++ (AFTER_CYCLES.now ++ decimal cycles ++ CYCLES_END.now))

-- ---- a word that stands for no place

-- Why a word that is written as a line is no place: its file is not one of debug information; or it
-- is, and no line from there on has bytes; or what stands behind the line is no sum.
abbrev pub line_fault : PlacesView → Option (ℕ × ℕ) → List ℕ
line_fault places None = NO_FILE.now
line_fault places (Some line)
    = if is_some (address_from places.sites line.0 line.1) then NO_PLACE.now else NO_LINE.now

-- Why a word is no place.
abbrev pub why_unplaced : Option PlacesView → List ℕ → List ℕ
why_unplaced None word = NO_PLACE.now
why_unplaced (Some places) word
    = if is_some (line_number word) then line_fault places (own_line places word) else NO_PLACE.now

abbrev pub unplaced_word : Option PlacesView → List ℕ → List ℕ
unplaced_word debug word = line_of word (why_unplaced debug word)

abbrev pub unplaced_line : Option PlacesView → Option (List ℕ) → List ℕ
unplaced_line debug None = []
unplaced_line debug (Some word) = unplaced_word debug word
