-- What `info` says of debug information: its lines, its files and how they are found, its segments,
-- and the ranges of the addresses of which no line is shown; or its first fault. No clause can say
-- which files are found. Source: mos65.
use Rattle.std.specs.Prelude.{◌≡◌, ◌⊎◌, ℕ, Bool, true, false, List, ◌++◌, string_bytes, Option, None, Some, Ok, Err}
use Rattle.std.specs.List.{flat_map}
use Rattle.debug_facts.specs.Hidden.{AreHidden}
use Rattle.debug_facts.specs.Rows.{fault_text, form_of, hidden_row, known_text}
use Rattle.debug_facts.specs.declared.form.DebugForm.{DebugForm}
use Rattle.debug_files.specs.Forms.{info_of}
use Rattle.debug_files.specs.declared.changed.SourceState.{SourceState}
use Rattle.debug_records.specs.Info.{Info, Table}
use Rattle.debug_records.specs.Records.{Segment}
use Rattle.debug_records.specs.declared.fault.DebugFault.{DebugFault}
use Rattle.image_reader.specs.declared.form.Form.{Form}
use Rattle.tape_words.specs.Asked.{InfoAsked}
use Rattle.tape_words.specs.declared.answer.Answer.{Answer}
use Rattle.word_info.specs.Facts.{ranges_of}
use Rattle.word_info.specs.Word.{IsSaid}
use Rattle.word_info.specs.declared.ranges.Range.{Range}

-- Bytes are debug information if they begin as some, and no form of an image is said.
abbrev pub debug_form : Option Form → List ℕ → Option DebugForm
debug_form None bytes = form_of bytes
debug_form (Some form) bytes = None

abbrev pub range_text : Table Segment → Range → List ℕ
range_text segments range = hidden_row range.first range.last segments

abbrev pub hidden_rows : Table Segment → List Range → List ℕ
hidden_rows segments ranges = flat_map (range_text segments) ranges

-- The rows of what debug information says, whose files are found so.
abbrev pub AreDebugRows : DebugForm → Info → List SourceState → List ℕ → Type 0
AreDebugRows form info states said = (cells : List (Option ℕ)) × AreHidden info cells
    × (said ≡ known_text form info states ++ hidden_rows info.segments (ranges_of cells))

pub record IsOfDebug (asked : InfoAsked) (said : List ℕ) : Type 0 where
  pub bytes : List ℕ
  pub form : DebugForm
  pub begun : debug_form asked.form bytes ≡ Some form
  pub info : Info
  pub reads : info_of bytes ≡ Ok info
  pub states : List SourceState
  pub rows : AreDebugRows form info states said

pub record IsWrongDebug (asked : InfoAsked) (said : List ℕ) : Type 0 where
  pub bytes : List ℕ
  pub form : DebugForm
  pub begun : debug_form asked.form bytes ≡ Some form
  pub fault : DebugFault
  pub first : info_of bytes ≡ Err fault
  pub told : said ≡ fault_text asked.tape fault

abbrev pub IsSaidOfDebug : InfoAsked → Bool → List ℕ → Type 0
IsSaidOfDebug asked true said = IsOfDebug asked said
IsSaidOfDebug asked false said = IsWrongDebug asked said

-- A text can be said of some image, of some debug information, or of some file that is neither.
abbrev pub IsTold : InfoAsked → Bool → List ℕ → Type 0
IsTold asked is_right said = IsSaid asked is_right said ⊎ IsSaidOfDebug asked is_right said

abbrev pub IsAnswer : InfoAsked → Answer → Type 0
IsAnswer asked answer = IsTold asked answer.is_right (string_bytes answer.text)
