-- What a file of marks says. Source: mos65.
use Rattle.std.specs.Prelude.{◌≡◌, ⊤, ℕ, ◌+◌, not, Bool, true, false, if◌then◌else◌, ℤ, pos, List, [], ◌∷◌, codes, Option, Some, None, Result, Ok, Err}
use Rattle.std.specs.Ordering.{int_eq}
use Rattle.std.specs.Str.{bytes_eq}
use Rattle.lexer.specs.Front.{first_field, without_blanks}
use Rattle.model.specs.Commands.{address_of}
use Rattle.model.specs.Names.{number_in}
use Rattle.model.specs.TextLines.{lines_of}
use Rattle.model.specs.declared.instruction.Profile.{Profile}
use Rattle.reached.specs.Reached.{tail_at}
use Rattle.reached.specs.declared.inline.Inline.{Inline}
use Rattle.reached.specs.declared.inline.Tail.{Tail}
use Rattle.marks_files.specs.Fields.{Fields, behind_word, column_of, fields_of, is_nothing}
use Rattle.marks_files.specs.Marks.{Marks, is_name, is_same_tail, is_text, is_whole, meets_other, meets_split, with_entry, with_following, with_label, with_range, with_remark, with_routine, with_split}
use Rattle.marks_files.specs.Views.{marks_view}
use Rattle.marks_files.specs.Values.{number_of, range_of, routine_of}
use Rattle.marks_files.specs.declared.fault.MarksError.{MarksError}
use Rattle.marks_files.specs.declared.fault.MarksError.TheVariants.{Fault, Memory}
use Rattle.marks_files.specs.declared.fault.MarksFault.{MarksFault}
use Rattle.marks_files.specs.declared.fault.MarksFaultKind.{MarksFaultKind}
use Rattle.marks_files.specs.declared.fault.MarksFaultKind.TheVariants.{UnknownMark, BadRange, BadAddress, BadRoutine, BadName, DuplicateName, BadText, JunkBehind, Disagrees, BadCount}
use Rattle.marks_files.specs.declared.marks.Marks.{Marks as HeldMarks}
use Rattle.marks_files.specs.declared.marks.RangeKind.{RangeKind}
use Rattle.marks_files.specs.declared.marks.RangeKind.TheVariants.{Numbers, Letters, Addresses, Returns, Instructions}
use Rattle.marks_files.specs.declared.marks.Split.{Split as Halves}
use Rattle.marks_files.specs.declared.word.MarkWord.{MarkWord}
use Rattle.marks_files.specs.declared.word.MarkWord.TheVariants.{Range, Split, Follow, Routine, Label, Comment}

-- The marks with those of what was read, or its first fault.
abbrev pub Read : Type 0
Read = Result Marks MarksFault

abbrev pub fault_at : ℕ → ℕ → MarksFaultKind → Read
fault_at line column kind = Err (record { line = line; column = column; kind = kind })

-- ---- the word of a mark

-- What a line marks, by its first word. Those of ranges, control and routines are the names of
-- options.
unfoldable pub word_of : List ℕ → Option MarkWord
word_of word = if bytes_eq word (codes "data") then Some (Range Numbers)
    else if bytes_eq word (codes "text") then Some (Range Letters)
    else if bytes_eq word (codes "words") then Some (Range Addresses)
    else if bytes_eq word (codes "rts-words") then Some (Range Returns)
    else if bytes_eq word (codes "code") then Some (Range Instructions)
    else if bytes_eq word (codes "split") then Some (Split 0)
    else if bytes_eq word (codes "rts-split") then Some (Split 1)
    else if bytes_eq word (codes "follow") then Some Follow
    else if bytes_eq word (codes "inline") then Some Routine
    else if bytes_eq word (codes "label") then Some Label
    else if bytes_eq word (codes "comment") then Some (Comment false)
    else if bytes_eq word (codes "block") then Some (Comment true) else None

-- ---- a mark

-- A range, in no address of which something of another kind was marked before.
abbrev pub range_read : ℕ → Fields → RangeKind → Marks → Option (ℕ × ℕ) → Read
range_read number f kind m None = fault_at number f.value_column BadRange
range_read number f kind m (Some range) =
    if not (is_nothing f.rest) then fault_at number f.rest_column JunkBehind
    else if meets_other kind m range then fault_at number f.value_column Disagrees
    else Ok (with_range kind range m)

-- A table in two halves: where the low bytes begin, where the high ones do, and how many words there
-- are. No address in it was marked as another kind before.
abbrev pub halves_read : ℕ → List ℕ → Fields → Halves → Marks → Read
halves_read number line f split m = let counted = behind_word f.rest in
    if not (is_whole split) then fault_at number (column_of line counted) BadCount
    else if not (is_nothing (behind_word counted))
    then fault_at number (column_of line (behind_word counted)) JunkBehind
    else if meets_split m split then fault_at number f.value_column Disagrees
    else Ok (with_split split m)

abbrev pub count_read : ℕ → List ℕ → Fields → ℕ → ℕ → ℕ → Marks → Option ℕ → Read
count_read number line f more low high m None
    = fault_at number (column_of line (behind_word f.rest)) BadCount
count_read number line f more low high m (Some count) = halves_read number line f
    (record { low = low; high = high; count = count; more = more }) m

abbrev pub high_read : ℕ → List ℕ → Fields → ℕ → ℕ → Marks → Option ℕ → Read
high_read number line f more low m None = fault_at number f.rest_column BadAddress
high_read number line f more low m (Some high) = count_read number line f more low high m
    (number_of (first_field (behind_word f.rest)))

abbrev pub split_read : ℕ → List ℕ → Fields → ℕ → Marks → Option ℕ → Read
split_read number line f more m None = fault_at number f.value_column BadAddress
split_read number line f more m (Some low) = high_read number line f more low m
    (address_of (first_field f.rest))

-- The vectors, where no address is said, or an address.
abbrev pub entry_read : ℕ → Fields → Marks → Option ℕ → Read
entry_read number f m None = fault_at number f.value_column BadAddress
entry_read number f m (Some address) =
    if not (is_nothing f.rest) then fault_at number f.rest_column JunkBehind
    else Ok (with_entry address m)

abbrev pub follow_read : ℕ → Fields → Marks → Read
follow_read number f m = if is_nothing f.value then Ok (with_following m)
    else entry_read number f m (address_of f.value)

-- A routine that was said before stays, and something else behind its calls is refused.
abbrev pub routine_once : ℕ → Fields → Inline → Marks → Option Tail → Read
routine_once number f routine m None = Ok (with_routine routine m)
routine_once number f routine m (Some tail) = if is_same_tail tail routine.tail then Ok m
    else fault_at number f.value_column Disagrees

abbrev pub routine_read : ℕ → Fields → Marks → Option Inline → Read
routine_read number f m None = fault_at number f.value_column BadRoutine
routine_read number f m (Some routine) =
    if not (is_nothing f.rest) then fault_at number f.rest_column JunkBehind
    else routine_once number f routine m (tail_at m.routines routine.address)

-- A name that was given before stays, and another address of it is refused.
abbrev pub name_once : ℕ → Fields → ℕ → List ℕ → Marks → Option ℤ → Read
name_once number f address name m None = Ok (with_label name address m)
name_once number f address name m (Some old) = if int_eq old (pos address) then Ok m
    else fault_at number f.rest_column DuplicateName

abbrev pub name_read : Profile → ℕ → List ℕ → Fields → ℕ → List ℕ → Marks → Read
name_read profile number line f address name m =
    if not (is_name profile name address) then fault_at number f.rest_column BadName
    else if not (is_nothing (behind_word f.rest))
    then fault_at number (column_of line (behind_word f.rest)) JunkBehind
    else name_once number f address name m (number_in m.names name)

abbrev pub label_read : Profile → ℕ → List ℕ → Fields → Marks → Option ℕ → Read
label_read profile number line f m None = fault_at number f.value_column BadAddress
label_read profile number line f m (Some address)
    = name_read profile number line f address (first_field f.rest) m

-- A comment is what stands behind the address, up to the end of the line.
abbrev pub remark_read : ℕ → Fields → Bool → Marks → Option ℕ → Read
remark_read number f is_block m None = fault_at number f.value_column BadAddress
remark_read number f is_block m (Some address) =
    if is_text f.rest then Ok (with_remark address is_block f.rest m)
    else fault_at number f.rest_column BadText

abbrev pub mark_read : Profile → ℕ → List ℕ → Fields → Marks → Option MarkWord → Read
mark_read profile number line f m None = fault_at number f.word_column UnknownMark
mark_read profile number line f m (Some (Range kind))
    = range_read number f kind m (range_of f.value)
mark_read profile number line f m (Some (Split more))
    = split_read number line f more m (address_of f.value)
mark_read profile number line f m (Some Follow) = follow_read number f m
mark_read profile number line f m (Some Routine)
    = routine_read number f m (routine_of f.value)
mark_read profile number line f m (Some Label)
    = label_read profile number line f m (address_of f.value)
mark_read profile number line f m (Some (Comment is_block))
    = remark_read number f is_block m (address_of f.value)

-- What the fields of a line say, by its word.
abbrev pub fields_read : Profile → ℕ → List ℕ → Fields → Marks → Read
fields_read profile number line f m = mark_read profile number line f m (word_of f.word)

-- ---- a file

-- A line says nothing where it is empty or a comment, and otherwise what its word marks.
unfoldable pub line_read : Profile → ℕ → List ℕ → Marks → Read
line_read profile number line m = if is_nothing (without_blanks line) then Ok m
    else fields_read profile number line (fields_of line) m

abbrev pub then_read : Read → (Marks → Read) → Read
then_read (Ok m) next = next m
then_read (Err fault) next = Err fault

unfoldable pub lines_read : Profile → ℕ → List (List ℕ) → Marks → Read
lines_read profile number [] m = Ok m
lines_read profile number (line ∷ lines) m = then_read (line_read profile number line m)
    (λ read. lines_read profile (number + 1) lines read)

-- What a file of marks says, after what was said before it.
unfoldable pub marks_file : Profile → Marks → List ℕ → Read
marks_file profile given file = lines_read profile 1 (lines_of file) given

-- ---- answers

-- An error is the fault of what was read. Memory may run out at any line.
abbrev pub IsErrorOf : MarksError → Read → Type 0
IsErrorOf (Fault fault) read = read ≡ Err fault
IsErrorOf Memory read = ⊤

-- What was said with a line, or why not.
abbrev pub IsRead : {X : Type 0} → Result X MarksError → Marks → Read → Type 0
IsRead (Ok x) m read = read ≡ Ok m
IsRead (Err error) m read = IsErrorOf error read

-- The answer of a whole file.
abbrev pub IsMarksFile : Result HeldMarks MarksError → Read → Type 0
IsMarksFile (Ok m) read = read ≡ Ok (marks_view m)
IsMarksFile (Err error) read = IsErrorOf error read
