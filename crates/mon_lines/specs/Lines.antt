-- What a line asks for. Source: mos65.
use Rattle.std.specs.Prelude.{ℕ, ◌==◌, ◌&&◌, ◌||◌, nat_lt, not, is_none, is_some, Bool, true, false, codes, if◌then◌else◌, List, [], length, Option, Some, None, unwrap_or, Result, Ok, Err}
use Rattle.std.specs.Option.{option_copied}
use Rattle.std.specs.Str.{byte}
use Rattle.lexer.specs.Front.{is_next}
use Rattle.model.specs.Mnemonics.{mnemonic_named}
use Rattle.model.specs.declared.event.Setting.{Setting}
use Rattle.model.specs.declared.instruction.Mnemonic.{Mnemonic}
use Rattle.model.specs.declared.instruction.Profile.TheVariants.{C}
use Rattle.mon_line_parts.specs.Reading.{Reads, SeenFlaw, unknown, several, missing, behind, long, after, after_word, and_then, file_of, is_empty, is_word, number_in, past, skip, flaw_view, word_of}
use Rattle.mon_line_parts.specs.Values.{PlacesView, address_of, bit_of, bytes_of, count_of, line_alone}
use Rattle.mon_lines.specs.Parts.{address_at, ends_of, flag_of, is_register_or_flag, kind_of, level_of, setting_of, shown_of, stretch_of, tests_of, times_of, undoing_of, watched_register}
use Rattle.mon_line_parts.specs.Topics.{nearest_of, subject_of, topic_of}
use Rattle.mon_lines.specs.declared.command.Command.{Command}
use Rattle.mon_lines.specs.declared.command.Command.TheVariants as command
use Rattle.mon_lines.specs.declared.command.Drawing.{Drawing}
use Rattle.mon_lines.specs.declared.command.Drawing.TheVariants.{More, Clear, Size}
use Rattle.opcode_facts.specs.declared.flag.Flag.{Flag}
use Rattle.mon_lines.specs.declared.command.Register.{Register}
use Rattle.mon_lines.specs.declared.line.ReadLine.{ReadLine}
use Rattle.mon_lines.specs.declared.slip.Slip.{Slip}
use Rattle.mon_lines.specs.declared.command.Stretch.{Stretch}
use Rattle.mon_lines.specs.declared.command.Test.{Test}
use Rattle.mon_lines.specs.declared.command.Undoing.{Undoing}
use Rattle.mon_lines.specs.declared.command.Undoing.TheVariants.{Events}
use Rattle.mon_lines.specs.declared.command.WatchKind.{WatchKind}
use Rattle.mon_line_parts.specs.declared.slip.Lack.TheVariants as lacking
use Rattle.mon_line_parts.specs.declared.topic.Topic.{Topic}
use Rattle.mon_line_parts.specs.declared.topic.Topic.TheVariants as topic

-- What a line asks for: each command with what it is told.
pub data SeenCommand : Type 0 where
  nothing : SeenCommand
  step : ℕ → SeenCommand
  over : SeenCommand
  out : SeenCommand
  to_line : SeenCommand
  back_to_line : SeenCommand
  until : ℕ → SeenCommand
  go : Option ℕ → SeenCommand
  back : Undoing → SeenCommand
  rback : SeenCommand
  redo : Option ℕ → SeenCommand
  calls : SeenCommand
  locals : Option ℕ → SeenCommand
  history : ℕ → SeenCommand
  break_at : ℕ → Option (ℕ × ℕ) → List Test → ℕ → SeenCommand
  watch : Stretch → WatchKind → SeenCommand
  watch_register : Register → SeenCommand
  list : SeenCommand
  delete : ℕ → Option (ℕ × ℕ) → SeenCommand
  delete_register : Register → SeenCommand
  display : Option ℕ → SeenCommand
  undisplay : ℕ → SeenCommand
  regs : SeenCommand
  flags : SeenCommand
  mem : Stretch → SeenCommand
  dis : ℕ → ℕ → SeenCommand
  find : List ℕ → SeenCommand
  stack : SeenCommand
  set : Setting → SeenCommand
  set_flag : Flag → Bool → SeenCommand
  put : ℕ → List ℕ → SeenCommand
  asm : ℕ → List ℕ → SeenCommand
  type_in : List ℕ → SeenCommand
  screen : SeenCommand
  draw : Drawing → SeenCommand
  irq : Bool → SeenCommand
  nmi : SeenCommand
  reset : SeenCommand
  save : List ℕ → Option Stretch → SeenCommand
  reload : SeenCommand
  page : List ℕ → SeenCommand
  help : Option Topic → SeenCommand
  forms : Mnemonic → SeenCommand
  quit : SeenCommand

-- The same without where its parts lie in memory.
abbrev pub command_view : Command → SeenCommand
command_view command.Nothing = nothing
command_view (command.Step count) = step count
command_view command.Over = over
command_view command.Out = out
command_view command.Line = to_line
command_view command.LineBack = back_to_line
command_view (command.Until address) = until address
command_view (command.Go count) = go count
command_view (command.Back undoing) = back undoing
command_view command.Rback = rback
command_view (command.Redo count) = redo count
command_view command.Where = calls
command_view (command.Locals frame) = locals frame
command_view (command.History count) = history count
command_view (command.Break address line tests times) = break_at address line tests.items times
command_view (command.Watch stretch kind) = watch stretch kind
command_view (command.WatchRegister register) = watch_register register
command_view command.List = list
command_view (command.Delete address line) = delete address line
command_view (command.DeleteRegister register) = delete_register register
command_view (command.Display address) = display address
command_view (command.Undisplay address) = undisplay address
command_view command.Regs = regs
command_view command.Flags = flags
command_view (command.Mem stretch) = mem stretch
command_view (command.Dis address count) = dis address count
command_view (command.Find bytes) = find bytes.items
command_view command.Stack = stack
command_view (command.Set setting) = set setting
command_view (command.SetFlag flag value) = set_flag flag value
command_view (command.Put address bytes) = put address bytes.items
command_view (command.Asm address text) = asm address text.now
command_view (command.«Type» bytes) = type_in bytes.items
command_view command.Screen = screen
command_view (command.Draw drawing) = draw drawing
command_view (command.Irq level) = irq level
command_view command.Nmi = nmi
command_view command.Reset = reset
command_view (command.Save file stretch) = save file.now stretch
command_view command.Reload = reload
command_view (command.Page file) = page file.now
command_view (command.Help about) = help about
command_view (command.Forms mnemonic) = forms mnemonic
command_view command.Quit = quit

-- ---- what follows a first word

-- A place, or a line of the source alone, tests, and how often they have to hold.
abbrev pub break_from : PlacesView → ℕ → List ℕ → Reads SeenCommand
break_from places pc text =
    and_then (address_at places pc text) (λ address rest.
    and_then (tests_of places pc rest) (λ tests rest.
    and_then (times_of places rest) (λ times rest.
    Ok (break_at address (line_alone places text) tests times, rest))))

-- A place or two, and what is watched there.
abbrev pub bytes_watched_from : PlacesView → ℕ → List ℕ → Reads SeenCommand
bytes_watched_from places pc text =
    and_then (stretch_of places pc text) (λ stretch rest.
    and_then (kind_of rest) (λ kind rest.
    Ok (watch stretch kind, rest)))

-- What is watched: a register, also where the program has a name that is written so, or bytes.
abbrev pub watched_by : PlacesView → ℕ → List ℕ → Option Register → Reads SeenCommand
watched_by places pc text (Some register) = Ok (watch_register register, after_word text)
watched_by places pc text None = bytes_watched_from places pc text

abbrev pub watched_from : PlacesView → ℕ → List ℕ → Reads SeenCommand
watched_from places pc text = watched_by places pc text (watched_register (word_of text))

-- What is deleted: the watch of a register, or what stands at a place, or at a line alone.
abbrev pub deleted_by : PlacesView → ℕ → List ℕ → Option Register → Reads SeenCommand
deleted_by places pc text (Some register) = Ok (delete_register register, after_word text)
deleted_by places pc text None =
    and_then (address_at places pc text) (λ address rest.
    Ok (delete address (line_alone places text), rest))

abbrev pub deleted_from : PlacesView → ℕ → List ℕ → Reads SeenCommand
deleted_from places pc text = deleted_by places pc text (watched_register (word_of text))

-- A place whose byte is shown at each stop, if something is left, and one whose byte is not.
abbrev pub displayed_from : PlacesView → ℕ → List ℕ → Reads SeenCommand
displayed_from places pc text = if is_empty text then Ok (display None, text)
    else and_then (address_at places pc text) (λ address rest. Ok (display (Some address), rest))

abbrev pub undisplayed_from : PlacesView → ℕ → List ℕ → Reads SeenCommand
undisplayed_from places pc text =
    and_then (address_at places pc text) (λ address rest. Ok (undisplay address, rest))

-- What is set: a flag and its value, with `=` between them or without, or a register.
abbrev pub set_by : PlacesView → ℕ → List ℕ → Option Flag → Reads SeenCommand
set_by places pc text (Some flag) =
    and_then (bit_of places (past (byte "=") (after_word text))) (λ value rest.
    Ok (set_flag flag value, rest))
set_by places pc text None =
    and_then (setting_of places pc text) (λ setting rest. Ok (set setting, rest))

abbrev pub set_from : PlacesView → ℕ → List ℕ → Reads SeenCommand
set_from places pc text = set_by places pc text (flag_of (word_of text))

-- A register or a flag that is named alone, by a word that is no name of the program. `PC` is an
-- address.
abbrev pub asks_for_registers : PlacesView → List ℕ → Bool
asks_for_registers places text = is_register_or_flag (word_of text)
    && not (is_word (codes "PC") text)
    && is_none (address_of places.names (word_of text)) && is_empty (after_word text)

-- What is shown of memory. A register or a flag is shown by all registers.
abbrev pub shown_from : PlacesView → ℕ → List ℕ → Reads SeenCommand
shown_from places pc text = if asks_for_registers places text then Ok (regs, after_word text)
    else and_then (shown_of places pc text) (λ stretch rest. Ok (mem stretch, rest))

-- A place, the program counter if nothing is left, and a count, 10 if there is none.
abbrev pub place_or : PlacesView → ℕ → List ℕ → Reads ℕ
place_or places pc text = if is_empty text then Ok (pc, text) else address_at places pc text

abbrev pub instructions_from : PlacesView → ℕ → List ℕ → Reads SeenCommand
instructions_from places pc text =
    and_then (place_or places pc text) (λ address rest.
    and_then (count_of places rest) (λ count rest.
    Ok (dis address (unwrap_or count 10), rest)))

-- Columns and rows, 80 and 24 if there are none.
abbrev pub sized_from : PlacesView → List ℕ → Reads SeenCommand
sized_from places text =
    and_then (count_of places text) (λ columns rest.
    and_then (count_of places rest) (λ rows rest.
    Ok (draw (Size (unwrap_or columns 80) (unwrap_or rows 24)), rest)))

-- What is shown of the console, or how the screen is drawn that shows the last answer again.
abbrev pub screen_from : PlacesView → List ℕ → Reads SeenCommand
screen_from places text =
    if is_empty text then Ok (screen, text)
    else if is_word (codes "more") text then Ok (draw More, after_word text)
    else if is_word (codes "clear") text then Ok (draw Clear, after_word text)
    else sized_from places text

abbrev pub until_from : PlacesView → ℕ → List ℕ → Reads SeenCommand
until_from places pc text =
    and_then (address_at places pc text) (λ address rest. Ok (until address, rest))

-- `until` and a place, or a count.
abbrev pub going_from : PlacesView → ℕ → List ℕ → Reads SeenCommand
going_from places pc text =
    if is_word (codes "until") text then until_from places pc (after_word text)
    else and_then (count_of places text) (λ count rest. Ok (go count, rest))

-- A place, and an instruction to the end of the line.
abbrev pub assembled_from : PlacesView → ℕ → List ℕ → Reads SeenCommand
assembled_from places pc text =
    and_then (address_at places pc text) (λ address rest.
    if is_empty rest then Err (missing lacking.Instruction) else Ok (asm address rest, []))

-- A place, and bytes.
abbrev pub put_from : PlacesView → ℕ → List ℕ → Reads SeenCommand
put_from places pc text =
    and_then (address_at places pc text) (λ address rest.
    and_then (bytes_of places rest) (λ bytes rest.
    Ok (put address bytes, rest)))

-- The name of a file, and two addresses if something is left.
abbrev pub saved_in : PlacesView → ℕ → List ℕ → List ℕ → Reads SeenCommand
saved_in places pc file text = if is_empty text then Ok (save file None, text)
    else and_then (ends_of places pc text) (λ stretch rest. Ok (save file (Some stretch), rest))

abbrev pub saved_from : PlacesView → ℕ → List ℕ → Reads SeenCommand
saved_from places pc text = if is_empty (file_of text).0 then Err (missing lacking.File)
    else saved_in places pc (file_of text).0 (file_of text).1

-- The name of a file.
abbrev pub paged_from : List ℕ → Reads SeenCommand
paged_from text = if is_empty (file_of text).0 then Err (missing lacking.File)
    else Ok (page (file_of text).0, (file_of text).1)

-- What `help` asks for by a word. What stands behind the word does not count.
abbrev pub helped_by : List ℕ → Option Topic × Bool → Reads SeenCommand
helped_by word (Some about, many) = Ok (help (Some about), [])
helped_by word (None, true) = Err (several word)
helped_by word (None, false) = Err (unknown word)

-- A mnemonic is no shortened word.
abbrev pub helped_on : List ℕ → Option Mnemonic → Reads SeenCommand
helped_on word None = helped_by word (topic_of word)
helped_on word (Some mnemonic) = Ok (forms mnemonic, [])

abbrev pub helped_from : List ℕ → Reads SeenCommand
helped_from text = if is_empty text then Ok (help None, text)
    else if is_word (codes "all") text then Ok (help (Some topic.Help), [])
    else helped_on (word_of text) (mnemonic_named C (word_of text))

-- What follows a word that puts something.
abbrev pub putting : PlacesView → ℕ → List ℕ → Topic → Reads SeenCommand
putting places pc text topic.Set = set_from places pc text
putting places pc text topic.Put = put_from places pc text
putting places pc text topic.Asm = assembled_from places pc text
putting places pc text topic.«Type» =
    and_then (bytes_of places text) (λ bytes rest. Ok (type_in bytes, rest))
putting places pc text topic.Save = saved_from places pc text
putting places pc text topic.Reload = Ok (reload, text)
putting places pc text topic.Page = paged_from text
putting places pc text topic.Help = helped_from text
putting places pc text topic.Trace = Ok (help (Some topic.Trace), text)
putting places pc text _ = Ok (quit, text)

-- What follows a word that shows something, or sets or clears a stop.
abbrev pub seeing : PlacesView → ℕ → List ℕ → Topic → Reads SeenCommand
seeing places pc text topic.Where = Ok (calls, text)
seeing places pc text topic.Locals =
    and_then (count_of places text) (λ count rest. Ok (locals count, rest))
seeing places pc text topic.History =
    and_then (count_of places text) (λ count rest. Ok (history (unwrap_or count 10), rest))
seeing places pc text topic.Break = break_from places pc text
seeing places pc text topic.Watch = watched_from places pc text
seeing places pc text topic.List = Ok (list, text)
seeing places pc text topic.Delete = deleted_from places pc text
seeing places pc text topic.Display = displayed_from places pc text
seeing places pc text topic.Undisplay = undisplayed_from places pc text
seeing places pc text topic.Regs = Ok (regs, text)
seeing places pc text topic.Flags = Ok (flags, text)
seeing places pc text topic.Mem = shown_from places pc text
seeing places pc text topic.Dis = instructions_from places pc text
seeing places pc text topic.Find =
    and_then (bytes_of places text) (λ bytes rest. Ok (find bytes, rest))
seeing places pc text topic.Stack = Ok (stack, text)
seeing places pc text topic.Screen = screen_from places text
seeing places pc text other = putting places pc text other

-- What follows `line`: `back`, or nothing.
abbrev pub line_or_back : List ℕ → SeenCommand × List ℕ
line_or_back text = if is_word (codes "back") text then (back_to_line, after_word text)
    else (to_line, text)

-- What follows the first word, by its topic: that of one that moves the session here.
abbrev pub moving : PlacesView → ℕ → List ℕ → Topic → Reads SeenCommand
moving places pc text topic.Step =
    and_then (count_of places text) (λ count rest. Ok (step (unwrap_or count 1), rest))
moving places pc text topic.Over = Ok (over, text)
moving places pc text topic.Out = Ok (out, text)
moving places pc text topic.Line = Ok (line_or_back text)
moving places pc text topic.Until = until_from places pc text
moving places pc text topic.Go = going_from places pc text
moving places pc text topic.Back =
    and_then (undoing_of places text) (λ undoing rest. Ok (back undoing, rest))
moving places pc text topic.Rback = Ok (rback, text)
moving places pc text topic.Redo =
    and_then (count_of places text) (λ count rest. Ok (redo count, rest))
moving places pc text topic.Irq = and_then (level_of text) (λ level rest. Ok (irq level, rest))
moving places pc text topic.Nmi = Ok (nmi, text)
moving places pc text topic.Reset = Ok (reset, text)
moving places pc text other = seeing places pc text other

-- ---- the whole line

-- A slip, and what the line is about, if that was read.
abbrev pub SeenSlip : Type 0
SeenSlip = Option Topic × SeenFlaw

-- A slip of `page` is shown without what the line is about.
abbrev pub slip_about : Topic → Option Topic
slip_about topic.Page = None
slip_about about = Some about

abbrev pub whole_line : Topic → Reads SeenCommand → Result SeenCommand SeenSlip
whole_line about (Ok read) = if is_empty read.1 then Ok read.0
    else Err (slip_about about, behind read.1)
whole_line about (Err why) = Err (slip_about about, why)

-- The rest of a line behind its first word, by the topic of the word. The slip of a word that begins
-- none is about the word that comes nearest, if it is one of another debugger.
abbrev pub line_by : PlacesView → ℕ → List ℕ → List ℕ → List ℕ
    → Option Topic × Bool → Result SeenCommand SeenSlip
line_by places pc line word rest (Some about, many) = whole_line about (moving places pc rest about)
line_by places pc line word rest (None, true) = Err (None, several word)
line_by places pc line word rest (None, false) =
    Err (nearest_of word, unknown (if is_empty word then line else word))

-- `b` alone undoes an event. With a place behind it, it is `break`.
abbrev pub is_back : List ℕ → Bool
is_back text = is_word (codes "b") text && is_empty (after_word text)

-- A register or a flag and `=`: what follows `set`.
abbrev pub is_setting : List ℕ → Bool
is_setting text = is_register_or_flag (word_of text) && is_next (byte "=") (after_word text)

-- What follows `info`: a word of what is shown.
abbrev pub info_by : PlacesView → ℕ → List ℕ → List ℕ → Result SeenCommand SeenSlip
info_by places pc line text =
    line_by places pc line (word_of text) (after_word text) (subject_of (word_of text), false)

-- A first word, or `?`, and what follows it. Behind `info` the next word counts.
abbrev pub by_first_word : PlacesView → ℕ → List ℕ → List ℕ → Result SeenCommand SeenSlip
by_first_word places pc line text =
    if is_next (byte "?") text
    then line_by places pc line (codes "?") (after 1 text) (topic_of (codes "?"))
    else if is_word (codes "info") text
    then info_by places pc line (after_word text)
    else line_by places pc line (word_of text) (after_word text) (topic_of (word_of text))

-- A line: nothing, a setting, or a first word and what follows it.
abbrev pub line_from : PlacesView → ℕ → List ℕ → List ℕ → Result SeenCommand SeenSlip
line_from places pc line text =
    if is_empty text then Ok nothing
    else if is_back text then Ok (back (Events 1))
    else if is_setting text then whole_line topic.Set (moving places pc text topic.Set)
    else by_first_word places pc line text

-- A line of more than 255 bytes asks for nothing.
abbrev pub is_long : List ℕ → Bool
is_long line = nat_lt 255 (length line)

unfoldable pub line_of : PlacesView → ℕ → List ℕ → Result SeenCommand SeenSlip
line_of places pc line = if is_long line then Err (None, long)
    else line_from places pc line (skip line)

-- ---- a number that may be meant as a hex one

-- Whether a line about a topic has such a number behind its first word: an address, or a byte that is
-- looked for.
abbrev pub may_have_hex : Option Topic → Bool
may_have_hex (Some topic.Break) = true
may_have_hex (Some topic.Watch) = true
may_have_hex (Some topic.Mem) = true
may_have_hex (Some topic.Dis) = true
may_have_hex (Some topic.Until) = true
may_have_hex (Some topic.Delete) = true
may_have_hex (Some topic.Display) = true
may_have_hex (Some topic.Undisplay) = true
may_have_hex (Some topic.Find) = true
may_have_hex (Some topic.Put) = true
may_have_hex (Some topic.Asm) = true
may_have_hex _ = false

-- Two or three decimal digits.
abbrev pub is_short_decimal : List ℕ → Bool
is_short_decimal word = (length word == 2 || length word == 3) && is_some (number_in 10 word)

abbrev pub decimal_behind : List ℕ → List ℕ → Option (List ℕ)
decimal_behind text word = if may_have_hex (topic_of (word_of text)).0 && is_short_decimal word
    then Some word else None

-- The decimal digits that stand there, if there are two or three.
unfoldable pub decimal_address : List ℕ → Option (List ℕ)
decimal_address line = if is_long line then None
    else decimal_behind (skip line) (word_of (after_word (skip line)))

-- ---- a line that was read

-- What it asks for, or what is missing or wrong in it; and the decimal digits that may be meant as a
-- hex number.
pub record SeenLine : Type 0 where
  pub asked : Result SeenCommand SeenSlip
  pub decimal : Option (List ℕ)

abbrev pub seen_line : PlacesView → ℕ → List ℕ → SeenLine
seen_line places pc line = record {
  asked = line_of places pc line;
  decimal = decimal_address line;
}

-- The same without where its parts lie in memory.
abbrev pub asked_view : Result Command Slip → Result SeenCommand SeenSlip
asked_view (Ok command) = Ok (command_view command)
asked_view (Err slip) = Err (slip.topic, flaw_view slip.flaw)

abbrev pub line_view : ReadLine → SeenLine
line_view line = record {
  asked = asked_view line.asked;
  decimal = option_copied line.decimal;
}
