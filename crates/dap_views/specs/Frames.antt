-- The frames of the stack: where the program is, and the calls and interrupts that have led there.
-- Source: Debug Adapter Protocol 1.65, "StackTrace Request"; what is taken for a call or an
-- interrupt, mos65: what `where` of `mon` takes for one.
use Rattle.std.specs.Prelude.{ℕ, zero, suc, ◌+◌, ◌==◌, nat_le, ◌≡◌, Bool, true, false, if◌then◌else◌, List, [], ◌∷◌, ◌++◌, drop, length, map, slice_get, string_bytes, Option, Some, None}
use Rattle.std.specs.List.{flat_map, list_any}
use Rattle.std.specs.Str.Lossy.{utf8_lossy}
use Rattle.arguments.specs.Shown.{shown_bytes}
use Rattle.c_frames.specs.declared.walk.Frame.{Frame as CFrame}
use Rattle.call_frames.specs.Found.{function_at}
use Rattle.dap_messages.specs.Counting.{first_column, shown_line}
use Rattle.dap_messages.specs.declared.counting.Counting.{Counting}
use Rattle.dap_messages.specs.declared.request.Page.{Page}
use Rattle.dap_views.specs.Pages.{page_of}
use Rattle.dap_messages.specs.SeenAnswers.{SeenAnswer, SeenItem, frame_at_line, frame_without_line, frames_body}
use Rattle.dap_views.specs.declared.source.FilePath.{FilePath}
use Rattle.dap_views.specs.declared.stack.Frame.{Frame}
use Rattle.model.specs.State.{State}
use Rattle.mon_instructions.specs.Places.{place_text}
use Rattle.mon_calls.specs.Calls.{called_line, stack_behind, where_text}
use Rattle.mon_calls.specs.Spots.{from_line, spot_line}
use Rattle.mon_texts.specs.Pushed.{entry_len, pushed_at}
use Rattle.mon_texts.specs.declared.pushed.Pushed.{Pushed}
use Rattle.mon_texts.specs.declared.pushed.Pushed.TheVariants.{Call, Break, Interrupt, Byte}
use Rattle.mon_texts.specs.declared.wording.TheConstants.{CALLED_FROM, INTERRUPTED_AT, PROGRAM_AT}
use Rattle.source_map.specs.Functions.{FunctionView}
use Rattle.source_map.specs.Lines.{PlacesView, row_at}
use Rattle.source_map.specs.Names.{Named}
use Rattle.source_map.specs.declared.rows.Row.{Row}

-- ---- which frames there are

abbrev pub new_frame : ℕ → ℕ → Bool → Frame
new_frame id address is_interrupted
    = record { id = id; address = address; is_interrupted = is_interrupted }

-- The frame that a call, a BRK or an interrupt has left, which has pushed what stands at an address
-- of the stack.
abbrev pub frame_of : ℕ → Pushed → List Frame
frame_of place (Call at) = new_frame place at false ∷ []
frame_of place (Break at) = new_frame place at false ∷ []
frame_of place (Interrupt at) = new_frame place at true ∷ []
frame_of place Byte = []

-- Those of up to n that were pushed, from an address on, where the stack ends at $01FF.
unfoldable pub frames_from : ℕ → List ℕ → List Row → ℕ → List Frame
frames_from zero memory lines address = []
frames_from (suc n) memory lines address = if nat_le 512 address then []
    else frame_of address (pushed_at memory lines address)
    ++ frames_from n memory lines (address + entry_len memory lines address)

-- Those below that of the program counter.
abbrev pub left_frames : State → List Row → List Frame
left_frames s lines = frames_from 256 s.bus.memory lines (257 + s.regs.s)

-- All, the last one first.
abbrev pub stack_frames : State → List Row → List Frame
stack_frames s lines = new_frame 1 s.regs.pc false ∷ left_frames s lines

-- Whether there is a frame of a number.
abbrev pub has_frame : List Frame → ℕ → Bool
has_frame frames id = list_any (λ frame. frame.id == id) frames

-- ---- they are those of `where`

-- The line that `where` has of a frame.
abbrev pub where_line : State → PlacesView → Frame → List ℕ
where_line s places frame = from_line
    (if frame.is_interrupted then INTERRUPTED_AT.now else CALLED_FROM.now) s places frame.address

-- Behind the frames of C, `where` has a line of each frame from there on, and no other, in the same
-- order. Where no frame of C is known, these are all below the first.
abbrev pub FramesAreThoseOfWhere : Type 0
FramesAreThoseOfWhere = (s : State) (places : PlacesView) (frames : List CFrame)
    → where_text s places frames ≡ spot_line PROGRAM_AT.now places s.regs.pc
    ++ flat_map (called_line s places) (drop 1 frames)
    ++ flat_map (where_line s places)
    (frames_from 256 s.bus.memory places.lines (257 + stack_behind frames s.regs.s))

-- ---- what is shown of a frame

-- The name of the function of C that has an address, or else the address, and the name that stands
-- there or nearest below it.
abbrev pub words_in : List Named → ℕ → Option FunctionView → List ℕ
words_in names address (Some function) = shown_bytes function.name
words_in names address None = place_text names address

abbrev pub where_words : PlacesView → ℕ → List ℕ
where_words places address
    = words_in places.names address (function_at places.functions address)

abbrev pub frame_words : PlacesView → Frame → List ℕ
frame_words places frame = if frame.is_interrupted
    then INTERRUPTED_AT.now ++ where_words places frame.address
    else where_words places frame.address

-- A frame with these words at a line of a file, if the file is known.
abbrev pub frame_in : Counting → Frame → List ℕ → Option FilePath → ℕ → SeenItem
frame_in counting frame words (Some file) line = frame_at_line frame.id frame.address words
    (shown_line counting line) (first_column counting) (string_bytes file.name)
    (string_bytes file.path)
frame_in counting frame words None line = frame_without_line frame.id frame.address words

-- A row has a line of one of the files.
abbrev pub frame_on : List FilePath → Counting → Frame → List ℕ → Option Row → SeenItem
frame_on files counting frame words (Some row)
    = frame_in counting frame words (slice_get files row.file) row.line
frame_on files counting frame words None = frame_without_line frame.id frame.address words

abbrev pub frame_shown : PlacesView → List FilePath → Counting → Frame → SeenItem
frame_shown places files counting frame = frame_on files counting frame
    (utf8_lossy (frame_words places frame)) (row_at places.lines frame.address)

-- Those that are asked for, and how many there are.
abbrev pub AreFrames : State → PlacesView → List FilePath → Counting → Page → SeenAnswer → Type 0
AreFrames s places files counting asked v = v ≡ frames_body
    (page_of asked (map (frame_shown places files counting) (stack_frames s places.lines)))
    (length (stack_frames s places.lines))
