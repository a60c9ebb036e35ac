-- What a fault of a tape means where it shows, as text. Source: mos65.
use Rattle.std.specs.Prelude.{ℕ, ◌-◌, ◌^◌, ◌==◌, nat_lt, Bool, false, true, if◌then◌else◌, List, [], ◌++◌, Option, None, Some, codes, decimal, length, slice_index, take}
use Rattle.std.specs.Fmt.{digits, format_spec, padded_integral}
use Rattle.std.specs.List.{count_by, suffix_len}
use Rattle.model.specs.Tape.{is_skipped}
use Rattle.model.specs.declared.tape.TapeFault.{TapeFault}
use Rattle.model.specs.declared.tape.TapeFaultKind.{TapeFaultKind}
use Rattle.model.specs.declared.tape.TapeFaultKind.TheVariants.{NoRecord, BadHex, BadChecksum, PastEnd, Truncated, BadCount, JunkAfterEnd, JunkBetween, OutOfMemory, TooLong}
pub use Rattle.image_files.specs.Forms.{is_no_record}
use Rattle.tape_words.specs.Answers.{counted, fault_front}
use Rattle.tape_words.specs.Lines.{line_of}
use Rattle.tape_words.specs.Records.{end_by, numbers_at}
use Rattle.tape_words.specs.declared.records.EndRecord.{EndRecord}
use Rattle.tape_words.specs.declared.records.EndRecord.TheVariants.{CountTwice}
use Rattle.tape_words.specs.declared.records.RecordNumbers.{RecordNumbers}
use Rattle.tape_words.specs.declared.wording.TheConstants.{NO_RECORD, SUM_IS_WRONG, RECORD_SUMS_TO, END_RECORD_SUMS_TO, ITS_CHECKSUM_IS, COUNT_TWICE, PAST_END, END_RECORD_COUNTS, COUNTS_ANOTHER, RECORD, RECORDS, AND_THERE, IS, ARE, LINE_END_WITHIN, IS_NO_HEX_DIGIT, ENDS_WITHIN_RECORD, END_RECORD_IS_MISSING, AFTER_END_RECORD, IS_NO_SEMICOLON, OUT_OF_MEMORY, TOO_LONG}

-- So many capital hex digits, more where a number has more, behind words.
unfoldable pub named_hex : List ℕ → ℕ → ℕ → List ℕ
named_hex words width number = words
    ++ padded_integral (format_spec 32 0 4 width (2 ^ 64 - 1)) false [] (digits 16 true number)

-- ---- records

abbrev pub is_record : ℕ → Bool
is_record b = b == 59

-- How many records begin before a place.
abbrev pub records_before : List ℕ → ℕ → ℕ
records_before text place = count_by is_record (take place text)

-- Where the last record begins; 0 if there is none.
abbrev pub last_record : List ℕ → ℕ
last_record text = length text - suffix_len is_no_record text - 1

-- ---- a wrong sum

-- A sum, and the checksum that is another.
unfoldable pub sums_text : List ℕ → RecordNumbers → List ℕ
sums_text words numbers = named_hex words 4 numbers.sum
    ++ named_hex ITS_CHECKSUM_IS.now 4 numbers.checksum

abbrev pub end_sum_text : EndRecord → RecordNumbers → List ℕ
end_sum_text CountTwice numbers = COUNT_TWICE.now
end_sum_text end numbers = sums_text END_RECORD_SUMS_TO.now numbers

-- The sum of a data record, or of an end record after so many data records.
abbrev pub known_sum_text : ℕ → RecordNumbers → List ℕ
known_sum_text records numbers = if nat_lt 0 numbers.length
    then sums_text RECORD_SUMS_TO.now numbers
    else end_sum_text (end_by records (Some numbers)) numbers

abbrev pub sum_text : ℕ → Option RecordNumbers → List ℕ
sum_text records None = SUM_IS_WRONG.now
sum_text records (Some numbers) = known_sum_text records numbers

-- ---- a wrong count

abbrev pub there_text : ℕ → List ℕ
there_text records = AND_THERE.now ++ (if records == 1 then IS.now else ARE.now)
    ++ codes " " ++ decimal records

-- How many records an end record counts, and how many there are.
abbrev pub known_count_text : ℕ → RecordNumbers → List ℕ
known_count_text records numbers = END_RECORD_COUNTS.now
    ++ counted numbers.address RECORD.now RECORDS.now ++ there_text records

abbrev pub count_text : ℕ → Option RecordNumbers → List ℕ
count_text records None = COUNTS_ANOTHER.now
count_text records (Some numbers) = known_count_text records numbers

-- ---- a byte

-- A byte among the digits of a record.
abbrev pub within_text : ℕ → List ℕ
within_text b = if is_skipped b then LINE_END_WITHIN.now
    else named_hex (codes "$") 2 b ++ IS_NO_HEX_DIGIT.now

-- A text that ends in its last record, or with a whole one that is not the end record.
abbrev pub truncated_text : Option RecordNumbers → List ℕ
truncated_text None = ENDS_WITHIN_RECORD.now
truncated_text (Some numbers) = END_RECORD_IS_MISSING.now

-- ---- all faults

abbrev pub meaning_text : List ℕ → ℕ → TapeFaultKind → List ℕ
meaning_text text place NoRecord = NO_RECORD.now
meaning_text text place BadHex = within_text (slice_index text place)
meaning_text text place BadChecksum
    = sum_text (records_before text place) (numbers_at text place)
meaning_text text place PastEnd = PAST_END.now
meaning_text text place Truncated = truncated_text (numbers_at text (last_record text))
meaning_text text place BadCount = count_text (records_before text place) (numbers_at text place)
meaning_text text place JunkAfterEnd
    = named_hex (codes "$") 2 (slice_index text place) ++ AFTER_END_RECORD.now
meaning_text text place JunkBetween = named_hex (codes "$") 2 (slice_index text place)
    ++ IS_NO_SEMICOLON.now
meaning_text text place OutOfMemory = OUT_OF_MEMORY.now
meaning_text text place TooLong = TOO_LONG.now

-- The line that says a fault of a file.
unfoldable pub fault_line : List ℕ → List ℕ → TapeFault → List ℕ
fault_line file text fault = fault_front file (line_of text fault.offset) fault.kind
    ++ (meaning_text text fault.offset fault.kind ++ codes "\n")
