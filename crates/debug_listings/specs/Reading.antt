-- What was read of a listing or a report so far, and the records of its rows. Source: mos65.
use Rattle.std.specs.Prelude.{ℕ, ◌+◌, ◌==◌, ◌||◌, nat_le, Bool, true, false, if◌then◌else◌, List, [], ◌∷◌, ◌++◌, length, Option, Some, None, Result, Ok, Err}
use Rattle.debug_listings.specs.declared.reading.Form.{Form}
use Rattle.debug_listings.specs.declared.reading.Reading.{Reading as HeldReading}
use Rattle.debug_listings.specs.declared.reading.Span.{Span as Begun}
use Rattle.debug_records.specs.Faults.{fault_at}
use Rattle.debug_records.specs.Info.{Info, no_info, put_at}
use Rattle.debug_records.specs.Reading.{most_files, most_records}
use Rattle.debug_records.specs.Records.{File}
use Rattle.debug_records.specs.Views.{info_view}
use Rattle.debug_records.specs.declared.fault.DebugFaultKind.TheVariants.{TooMany}
use Rattle.debug_records.specs.declared.fault.LineFault.{LineFault}
use Rattle.debug_records.specs.declared.info.Use.{Use}
use Rattle.debug_records.specs.declared.record.Line.{Line}
use Rattle.debug_records.specs.declared.record.LineKind.TheVariants.{Assembler}
use Rattle.debug_records.specs.declared.record.Span.{Span}

-- The form of the text, and what its lines said of it; the number of the file that is read, if it is
-- known; the bytes of the line that were read last; and the records of the lines before it.
pub record Reading : Type 0 where
  pub form : Form
  pub file : Option ℕ
  pub last : Option Begun
  pub info : Info

abbrev pub reading_view : HeldReading → Reading
reading_view reading = record {
  form = reading.form;
  file = reading.file;
  last = reading.last;
  info = info_view reading.info;
}

abbrev pub nothing_read : Form → Reading
nothing_read form = record {
  form = form;
  file = None;
  last = None;
  info = no_info;
}

abbrev pub Read : Type 0
Read = Result Reading LineFault

-- ---- the bytes of a line become a row: a line, a span, and the use of one by the other, all of one
-- number; 262,144 at most

abbrev pub span_of : Begun → Span
span_of begun = record {
  segment = 0;
  start = begun.start;
  size = begun.size;
  is_data = begun.is_data;
}

abbrev pub line_of : Begun → Line
line_of begun
    = record { file = begun.file; line = begun.line; kind = Assembler; depth = 0 }

abbrev pub use_of : ℕ → Use
use_of number = record { line = number; span = number }

abbrev pub with_row : Begun → Info → Info
with_row begun info = record info {
  spans = info.spans ++ Some (span_of begun) ∷ [];
  lines = info.lines ++ Some (line_of begun) ∷ [];
  uses = info.uses ++ use_of (length info.uses) ∷ [];
}

abbrev pub with_last : List ℕ → Option Begun → Reading → Read
with_last line None r = Ok r
with_last line (Some begun) r = if nat_le most_records (length r.info.uses)
    then Err (fault_at TooMany line)
    else Ok (record r { last = None; info = with_row begun r.info })

abbrev pub flushed : List ℕ → Reading → Read
flushed line r = with_last line r.last r

-- ---- files: 4,096 at most

abbrev pub file_of : List ℕ → File
file_of name = record { name = name; size = None }

abbrev pub with_file : List ℕ → ℕ → List ℕ → Reading → Read
with_file line number name r = if nat_le most_files number then Err (fault_at TooMany line)
    else Ok (record r {
      file = Some number;
      info = record r.info { files = put_at r.info.files number (file_of name) };
    })
