-- What `mend` makes of a capture of a KIM-1's terminal: of what it showed while the monitor wrote a
-- tape, before that, and behind it. Source: KIM-1 manual, on the format of paper tapes: what comes
-- before a `;` is ignored, and the last record has no data; mos65 for the rest.
use Rattle.std.specs.Prelude.{◌≡◌, ℕ, ◌+◌, ◌-◌, ◌==◌, if◌then◌else◌, true, List, [], ◌∷◌, ◌++◌, codes, decimal, length, take, Option}
use Rattle.std.specs.List.{list_all, AllByRecursion}
pub use Rattle.image_files.specs.Forms.{before_record, from_record}
use Rattle.model.specs.Image.{empty_image}
use Rattle.model.specs.Tape.{Part, IsEnd, IsPiece, count_of, front_of, with_records}
use Rattle.model.specs.declared.tape.TapeFault.{TapeFault}
use Rattle.model.specs.declared.tape.TapeFaultKind.{TapeFaultKind}
use Rattle.tape_words.specs.Answers.{counted}
use Rattle.tape_words.specs.Lines.{line_of}
use Rattle.tape_words.specs.Meanings.{is_no_record}
use Rattle.tape_words.specs.declared.wording.TheConstants.{BYTE, BYTES}
use Rattle.word_mend.specs.Mending.{kept, with_line_ends}
use Rattle.word_mend.specs.Reported.{is_end, last_record, moved}
use Rattle.word_mend.specs.declared.wording.TheConstants.{BEFORE_RECORD, BEHIND_END_RECORD, LEFT_OUT}

-- Some kept bytes without what follows their last record, if that is an end record: the `;`, and
-- ten digits.
unfoldable pub up_to_end : List ℕ → List ℕ
up_to_end bytes = if is_end (last_record bytes)
    then take (length bytes - (length (last_record bytes) - 11)) bytes else bytes

-- The records of a capture, one behind the other.
abbrev pub captured : List ℕ → List ℕ
captured text = up_to_end (kept (from_record text))

-- What `mend` makes of a capture: its records as they stand, each in a line of its own.
unfoldable pub captured_tape : List ℕ → List ℕ
captured_tape text = with_line_ends (captured text)

-- ---- what it means

-- A text is a capture of an image: from its first `;` on, without line ends, $00 and $13, it is
-- right data records, the end record that counts them, and bytes without a `;`. So no text is a
-- capture of two tapes, nor one in which a `;` stands before or behind the records.
pub record IsCapture (text : List ℕ) (cells : List (Option ℕ)) : Type 0 where
  pub pieces : List Part
  pub digits : List ℕ
  pub behind : List ℕ
  pub spelled : kept (from_record text) ≡ front_of pieces ++ (59 ∷ digits ++ behind)
  pub each : AllByRecursion IsPiece pieces
  pub end : IsEnd (count_of pieces) digits
  pub other : list_all is_no_record behind ≡ true
  pub union : cells ≡ with_records empty_image pieces

-- ---- what is said

-- How many bytes are left out where, and in which line a record stands there.
abbrev pub at_line : List ℕ → ℕ → List ℕ
at_line words line = words ++ decimal line ++ codes "\n"

unfoldable pub some_left_out : ℕ → List ℕ → ℕ → List ℕ
some_left_out count words line = LEFT_OUT.now ++ counted count BYTE.now BYTES.now
    ++ at_line words line

unfoldable pub left_out : ℕ → List ℕ → ℕ → List ℕ
left_out count words line = if count == 0 then [] else some_left_out count words line

-- What came before the first record.
abbrev pub before_text : List ℕ → List ℕ
before_text text = left_out (length (kept (before_record text))) BEFORE_RECORD.now
    (line_of text (length (before_record text)))

-- What came behind the last record, where that is the end record.
abbrev pub behind_text : List ℕ → List ℕ
behind_text text = left_out (length (kept (from_record text)) - length (captured text))
    BEHIND_END_RECORD.now (line_of text (length text - length (last_record text)))

-- A line for each place at which text is left out.
abbrev pub capture_text : List ℕ → List ℕ
capture_text text = before_text text ++ behind_text text

-- A fault of the tape that is made of a capture as one of the capture.
abbrev pub moved_capture : List ℕ → TapeFaultKind → ℕ → TapeFault
moved_capture text kind offset = record {
  offset = length (before_record text) + (moved (from_record text) kind offset).offset;
  kind = (moved (from_record text) kind offset).kind;
}
