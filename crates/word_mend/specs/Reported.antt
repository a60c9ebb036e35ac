-- What `mend` says of a tape where something was wrong. Source: mos65.
use Rattle.std.specs.Prelude.{ℕ, ◌+◌, ◌-◌, ◌==◌, ◌&&◌, nat_le, not, Bool, true, false, if◌then◌else◌, List, [], ◌∷◌, ◌++◌, length, slice_index, codes}
use Rattle.std.specs.List.{list_any}
use Rattle.model.specs.Tape.{is_skipped}
use Rattle.model.specs.declared.tape.TapeFault.{TapeFault}
use Rattle.model.specs.declared.tape.TapeFaultKind.{TapeFaultKind}
use Rattle.model.specs.declared.tape.TapeFaultKind.TheVariants.{Truncated}
use Rattle.word_mend.specs.Mending.{is_kept, kept, records_in}
use Rattle.tape_words.specs.Answers.{counted}
use Rattle.tape_words.specs.Meanings.{there_text}
use Rattle.tape_words.specs.Records.{end_record}
use Rattle.tape_words.specs.declared.records.EndRecord.{EndRecord}
use Rattle.tape_words.specs.declared.records.EndRecord.TheVariants.{Missing, Right, CountTwice, WrongSum, WrongCount}
use Rattle.tape_words.specs.declared.wording.TheConstants.{COUNT_TWICE, RECORD, RECORDS}
use Rattle.word_mend.specs.declared.wording.TheConstants.{LINE_END_WITHIN, LINE_ENDS_WITHIN, END_RECORD_WAS_MISSING, SUM_WAS_WRONG, END_RECORD_COUNTED}

-- How many line ends, $00 and $13 of a text are followed by a byte that is none of these and no
-- `;`, if so many come directly before the text.
unfoldable pub within_from : ℕ → List ℕ → ℕ
within_from skipped [] = 0
within_from skipped (b ∷ text) = if is_skipped b then within_from (skipped + 1) text
    else if b == 59 then within_from 0 text else skipped + within_from 0 text

-- How many line ends, $00 and $13 stand within the records of a text.
abbrev pub within_records : List ℕ → ℕ
within_records text = within_from 0 text

-- The last record of some kept bytes, from its `;` on; all of them if there is no `;`.
unfoldable pub last_record : List ℕ → List ℕ
last_record [] = []
last_record (b ∷ bytes) = if list_any (λ b. b == 59) bytes then last_record bytes
    else b ∷ bytes

-- A record that begins with `;00` is meant as an end record.
abbrev pub is_end : List ℕ → Bool
is_end bytes = nat_le 3 (length bytes) && slice_index bytes 0 == 59
    && slice_index bytes 1 == 48 && slice_index bytes 2 == 48

-- How many data records some kept bytes have.
abbrev pub data_records : List ℕ → ℕ
data_records bytes
    = if is_end (last_record bytes) then records_in bytes - 1 else records_in bytes

-- What is to be said of the end record of some kept bytes.
abbrev pub end_of : List ℕ → EndRecord
end_of bytes = if is_end (last_record bytes)
    then end_record (last_record bytes) 0 (data_records bytes) else Missing

abbrev pub within_text : ℕ → List ℕ
within_text count = if count == 0 then []
    else counted count LINE_END_WITHIN.now LINE_ENDS_WITHIN.now

-- What was wrong with an end record, after so many data records.
abbrev pub end_text : EndRecord → ℕ → List ℕ
end_text Right records = []
end_text Missing records = END_RECORD_WAS_MISSING.now
end_text CountTwice records = COUNT_TWICE.now ++ codes "\n"
end_text WrongSum records = SUM_WAS_WRONG.now
end_text (WrongCount count) records = END_RECORD_COUNTED.now
    ++ (counted count RECORD.now RECORDS.now ++ (there_text records ++ 10 ∷ []))

-- A line for each thing that was wrong with a text.
abbrev pub faults_text : List ℕ → List ℕ
faults_text text = within_text (within_records text)
    ++ end_text (end_of (kept text)) (data_records (kept text))

-- ---- a tape that is not mended

-- How many bytes of the mended text come directly before a byte: CR LF before each `;` but the first
-- byte.
abbrev pub ends_before : Bool → ℕ → ℕ
ends_before is_first b = if b == 59 && not is_first then 2 else 0

-- From a place of a text on, whose next byte may be the first that is kept: the place of the byte
-- before which so many bytes of the mended text are left, or of the one that comes next.
unfoldable pub place_from : ℕ → Bool → ℕ → List ℕ → ℕ
place_from left is_first place [] = place
place_from left is_first place (b ∷ text) =
    if is_kept b then (if nat_le left (ends_before is_first b) then place
    else place_from (left - (ends_before is_first b + 1)) false (place + 1) text)
    else place_from left is_first (place + 1) text

-- The place in a text of the byte that has this place in its mended text, or that comes next.
abbrev pub place_in : List ℕ → ℕ → ℕ
place_in text made = place_from made true 0 text

-- A fault of a mended text as one of the text that it was made of: where that ends, a record is cut
-- short.
abbrev pub moved : List ℕ → TapeFaultKind → ℕ → TapeFault
moved text kind offset = record {
  offset = place_in text offset;
  kind = if place_in text offset == length text then Truncated else kind;
}
