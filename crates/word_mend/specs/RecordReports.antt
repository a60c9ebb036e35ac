-- What `mend` says of Intel HEX and of S-records. Source: mos65.
use Rattle.std.specs.Prelude.{◌≡◌, ℕ, if◌then◌else◌, List, [], ◌++◌, Option, None, Some, codes, decimal}
use Rattle.std.specs.List.{flat_map}
use Rattle.arguments.specs.Shown.{shown_name}
use Rattle.image_files.specs.Told.{record_note}
use Rattle.image_reader.specs.RecordFault.{record_fault_name, record_fault_number}
use Rattle.image_reader.specs.declared.fault.RecordFault.{RecordFault}
use Rattle.image_reader.specs.declared.fault.RecordFaultKind.{RecordFaultKind}
use Rattle.image_reader.specs.declared.form.TextForm.{TextForm}
use Rattle.tape_words.specs.Meanings.{named_hex}
use Rattle.word_mend.specs.RecordMending.{lacked_end, wrong_sums}
use Rattle.word_mend.specs.declared.checksums.WrongSum.{WrongSum}
use Rattle.word_mend.specs.declared.wording.TheConstants.{NOTHING_WAS_WRONG, END_RECORD_WAS_MISSING, LINE, THE_CHECKSUM_WAS, AND_IS_NOW}

-- ---- a text that is mended

abbrev pub line_text : ℕ → List ℕ
line_text line = LINE.now ++ decimal line

-- A wrong checksum and the right one, each behind its words.
abbrev pub sum_text : List ℕ → List ℕ → WrongSum → List ℕ
sum_text was right sum = line_text sum.line ++ (named_hex was 2 sum.sums.was
    ++ (named_hex right 2 sum.sums.right ++ codes "\n"))

-- A line for each checksum that was wrong, and one if the end record was missing.
abbrev pub records_text : TextForm → List ℕ → List ℕ
records_text form text
    = flat_map (sum_text THE_CHECKSUM_WAS.now AND_IS_NOW.now) (wrong_sums form text)
    ++ (if lacked_end form text then END_RECORD_WAS_MISSING.now else [])

-- What is said of a text that had this first fault, or none.
abbrev pub IsRecordsReport : TextForm → List ℕ → Option RecordFault → List ℕ → Type 0
IsRecordsReport form text None said = said ≡ NOTHING_WAS_WRONG.now
IsRecordsReport form text (Some fault) said = said ≡ records_text form text

-- ---- a text that is not

-- Where a fault is: `rom.hex:2:14: `.
unfoldable pub place_text : List ℕ → ℕ → ℕ → List ℕ
place_text file line column = shown_name file ++ codes ":" ++ decimal line ++ codes ":"
    ++ decimal column ++ codes ": "

-- Its name and number, and what it means.
unfoldable pub kind_text : RecordFaultKind → List ℕ
kind_text kind = record_fault_name kind ++ codes " " ++ decimal (record_fault_number kind)
    ++ record_note kind ++ codes "\n"

-- The line that says a fault of a file.
abbrev pub record_line : List ℕ → RecordFault → List ℕ
record_line file fault = place_text file fault.line fault.column ++ kind_text fault.kind
