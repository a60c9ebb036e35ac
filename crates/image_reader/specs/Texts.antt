-- Texts of Intel HEX and of S-records: which image a text denotes, or which fault is its first.
-- Source: mos65, over the records.
use Rattle.std.specs.Prelude.{ℕ, ◌+◌, nat_lt, if◌then◌else◌, List, [], ◌∷◌, Option, Result, Ok, Err}
use Rattle.model.specs.TextLines.{lines_of}
use Rattle.image_reader.specs.declared.fault.LineFault.{LineFault}
use Rattle.image_reader.specs.declared.fault.RecordFault.{RecordFault}
use Rattle.image_reader.specs.declared.fault.RecordFaultKind.TheVariants.{NoEnd}
use Rattle.image_reader.specs.declared.form.TextForm.{TextForm}
use Rattle.image_reader.specs.declared.form.TextForm.TheVariants.{Hex, SRecord}
use Rattle.image_reader.specs.declared.reading.Place.{Place}
use Rattle.image_reader.specs.declared.reading.Place.TheVariants.{Open, Counted, Ended}
use Rattle.image_reader.specs.HexRecords.{hex_line}
use Rattle.image_reader.specs.Progress.{Progress, start}
use Rattle.image_reader.specs.Records.{◌>>=◌, at}
use Rattle.image_reader.specs.SRecords.{s_line}

abbrev pub form_line : TextForm → Progress → List ℕ → Result Progress LineFault
form_line Hex s line = hex_line s line
form_line SRecord s line = s_line s line

-- After the end record a line does nothing, whatever it is.
abbrev pub line_at : Place → Progress → List ℕ → Result Progress LineFault
line_at Open s line = form_line s.form s line
line_at Counted s line = form_line s.form s line
line_at Ended s line = Ok s

-- What a line does.
unfoldable pub read_line : Progress → List ℕ → Result Progress LineFault
read_line s line = line_at s.place s line

-- A fault of a line, with the number of the line.
abbrev pub in_line : ℕ → LineFault → RecordFault
in_line n fault = record { line = n; column = fault.column; kind = fault.kind }

abbrev pub numbered : {A : Type 0} → ℕ → Result A LineFault → Result A RecordFault
numbered n (Ok x) = Ok x
numbered n (Err fault) = Err (in_line n fault)

-- Lines are numbered up to 4,294,967,295.
abbrev pub next_line : ℕ → ℕ
next_line n = if nat_lt n 4294967295 then n + 1 else n

-- At the end of the text: an end record is wanted, or a count record as the last one, where some
-- writers stop. If there is none, the fault is where the next line would begin.
abbrev pub end_at : Place → ℕ → Progress → Result (List (Option ℕ)) RecordFault
end_at Open n s = Err (in_line n (at NoEnd 1))
end_at Counted n s = Ok s.cells
end_at Ended n s = Ok s.cells

unfoldable pub finished : ℕ → Progress → Result (List (Option ℕ)) RecordFault
finished n s = end_at s.place n s

-- What the lines from number n on lead to, with the number of the next line, or the fault of the
-- first that has one.
abbrev pub after_lines : ℕ → Progress → List (List ℕ) → Result (ℕ × Progress) RecordFault
after_lines n s [] = Ok (n, s)
after_lines n s (line ∷ lines)
    = numbered n (read_line s line) >>= λ t. after_lines (next_line n) t lines

-- The image that a text denotes, or its first fault: that of the first line that has one, and in
-- the line the first place where it ceases to be a record.
unfoldable pub text_image : TextForm → List ℕ → Result (List (Option ℕ)) RecordFault
text_image form text = after_lines 1 (start form) (lines_of text) >>= λ t. finished t.0 t.1

-- A cell at each address for which more than one data record of a text has a byte, or the first fault
-- of a line.
unfoldable pub text_overlaps : TextForm → List ℕ → Result (List (Option ℕ)) RecordFault
text_overlaps form text = after_lines 1 (start form) (lines_of text) >>= λ t. Ok t.1.again
