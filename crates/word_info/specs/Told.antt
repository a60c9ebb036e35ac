-- What `info` says of a tape. Source: mos65. No clause can say which tape a file has.
use Rattle.std.specs.Prelude.{◌≡◌, ◌⊎◌, ℕ, Bool, true, false, List, [], ◌++◌, Option, None, Some, Result, Ok, Err, codes}
use Rattle.std.specs.List.{flat_map}
use Rattle.dump_faults.specs.Faults.{stuck_lines}
use Rattle.dump_faults.specs.Regions.{regions_of}
use Rattle.image_files.specs.Bytes.{IsImage, IsNoImage, form_by}
use Rattle.image_files.specs.FreeBase.{IsFreeBase}
use Rattle.image_files.specs.declared.refusal.ImageRefusal.TheVariants as why
use Rattle.image_files.specs.declared.refusal.NoImage.{NoImage}
use Rattle.image_files.specs.declared.refusal.NoImage.TheVariants.{Looks}
use Rattle.image_reader.specs.EndRecords.{as_read, has_count_twice}
use Rattle.image_reader.specs.Texts.{text_image}
use Rattle.image_reader.specs.declared.fault.RecordFault.{RecordFault}
use Rattle.image_reader.specs.declared.form.Form.{Form}
use Rattle.image_reader.specs.declared.form.Form.TheVariants.{Tape, Text}
use Rattle.image_reader.specs.declared.form.TextForm.{TextForm}
use Rattle.image_files.specs.declared.form.OtherText.{OtherText}
use Rattle.model.specs.State.{memory_of}
use Rattle.model.specs.Tape.{FirstFault, TapeDenotes}
use Rattle.model.specs.declared.instruction.Profile.{Profile}
use Rattle.model.specs.declared.tape.TapeFault.{TapeFault}
use Rattle.word_mend.specs.Captures.{IsCapture, captured_tape}
use Rattle.word_mend.specs.Mending.{IsMendedText, mended_text}
use Rattle.word_mend.specs.RecordMending.{AreMendedLines, mended_lines, wrong_sums}
use Rattle.word_mend.specs.RecordReports.{sum_text}
use Rattle.arguments.specs.Shown.{shown_name}
use Rattle.tape_words.specs.Asked.{InfoAsked}
use Rattle.tape_words.specs.Meanings.{fault_line}
use Rattle.tape_words.specs.declared.wording.TheConstants.{COUNT_TWICE}
use Rattle.word_info.specs.Facts.{bytes_among, checksums_of, data_records, largest_gap, ranges_of, vector_at}
use Rattle.word_info.specs.Overlaps.{AreTextOverlaps, overlaps_of}
use Rattle.word_info.specs.Behind.{records_behind}
use Rattle.word_info.specs.Rows.{behind_row, no_image_text, rows_of}
use Rattle.word_info.specs.declared.fact_list.Facts.{Facts}
use Rattle.word_info.specs.declared.ranges.Range.{Range}
use Rattle.word_info.specs.declared.wording.TheConstants.{AND_SHOULD_BE, CAPTURE, MEND_MENDS_IT, MENDED_FOR_DEBUG, THE_CHECKSUM_IS}

-- The facts of an image, with those of a map's port.
pub record AreFacts (image : List (Option ℕ)) (port : ℕ) (f : Facts) : Type 0 where
  pub ranges : f.ranges.items ≡ ranges_of image
  pub checksums : f.checksums.items ≡ checksums_of (memory_of image) (ranges_of image)
  pub regions : f.regions.items ≡ regions_of image
  pub lines : f.lines.items ≡ stuck_lines image
  pub bytes : f.bytes ≡ bytes_among image 0 65536
  pub gap : f.gap ≡ largest_gap (ranges_of image)
  pub page_0 : f.in_page_0 ≡ bytes_among image 0 256
  pub page_1 : f.in_page_1 ≡ bytes_among image 256 256
  pub port_bytes : f.at_port ≡ bytes_among image port 4
  pub free : IsFreeBase None image f.free_base
  pub nmi : f.nmi ≡ vector_at image 65530
  pub reset : f.reset ≡ vector_at image 65532
  pub irq : f.irq ≡ vector_at image 65534

-- The rows of an image's facts, for a profile and a port.
pub record AreRows (profile : Profile) (image : List (Option ℕ)) (port : ℕ) (records : Option ℕ)
    (overlaps : List Range) (said : List ℕ) : Type 0 where
  pub facts : Facts
  pub are : AreFacts image port facts
  pub rows : said ≡ rows_of profile image port facts records overlaps

abbrev pub is_tape : Result Form OtherText → Bool
is_tape (Ok Tape) = true
is_tape told = false

-- How many data records some bytes have, where they are a tape.
abbrev pub records_in : Result Form OtherText → List ℕ → Option ℕ
records_in (Ok Tape) bytes = Some (data_records (as_read bytes))
records_in told bytes = None

-- Where records overlap: the ranges of the addresses at which more than one of them puts a byte. An
-- image in a form without records has no such ranges.
abbrev pub AreOverlaps : Result Form OtherText → List ℕ → List Range → Type 0
AreOverlaps (Ok Tape) bytes overlaps = (cells : List (Option ℕ))
    → (tape : TapeDenotes (as_read bytes) cells) → overlaps ≡ overlaps_of tape.pieces
AreOverlaps (Ok (Text form)) bytes overlaps = AreTextOverlaps form bytes overlaps
AreOverlaps told bytes overlaps = overlaps ≡ []

-- `mend` makes a right tape of a text.
abbrev pub IsMendable : List ℕ → Type 0
IsMendable text = (out : List ℕ) × (image : List (Option ℕ)) × (fault : Option TapeFault)
    × IsMendedText text out fault × TapeDenotes out image

-- The mended text still has a fault.
abbrev pub IsBeyondMending : List ℕ → Type 0
IsBeyondMending text = (fault : TapeFault) × FirstFault (mended_text text) fault.kind fault.offset

-- `mend` makes a tape of a text, which is a capture.
abbrev pub IsMendableCapture : List ℕ → Type 0
IsMendableCapture text = (image : List (Option ℕ)) × IsCapture text image
    × TapeDenotes (captured_tape text) image

-- The tape that would be made of a capture has a fault.
abbrev pub IsBeyondCapture : List ℕ → Type 0
IsBeyondCapture text = (fault : TapeFault) × FirstFault (captured_tape text) fault.kind fault.offset

-- Whether `mend` mends a text, as a tape or as a capture: words that say so, or nothing.
abbrev pub IsHint : List ℕ → List ℕ → List ℕ → Type 0
IsHint words text hint = ((hint ≡ words) × (IsMendable text ⊎ IsMendableCapture text))
    ⊎ ((hint ≡ []) × IsBeyondMending text × IsBeyondCapture text)

-- What is said last of a tape, by whether its end record has the number of records in place of its
-- sum: that it has, and whether `mend` mends it.
abbrev pub IsTapeEnd : Bool → List ℕ → List ℕ → Type 0
IsTapeEnd false bytes end = end ≡ []
IsTapeEnd true bytes end = (hint : List ℕ) × IsHint MENDED_FOR_DEBUG.now bytes hint
    × (end ≡ COUNT_TWICE.now ++ (codes "\n" ++ hint))

-- What is said last of an image: of Intel HEX and S-records how many records are not read.
abbrev pub IsEndText : Result Form OtherText → List ℕ → List ℕ → Type 0
IsEndText (Ok Tape) bytes end = IsTapeEnd (has_count_twice bytes) bytes end
IsEndText (Ok (Text form)) bytes end = end ≡ behind_row (records_behind form bytes)
IsEndText told bytes end = end ≡ []

-- What is said of an image that some bytes denote.
pub record IsRightImage (asked : InfoAsked) (said : List ℕ) : Type 0 where
  pub bytes : List ℕ
  pub image : List (Option ℕ)
  pub denotes : IsImage asked.form bytes image
  pub overlaps : List Range
  pub written : AreOverlaps (form_by asked.form bytes) bytes overlaps
  pub front : List ℕ
  pub rows : AreRows asked.profile image asked.port
      (records_in (form_by asked.form bytes) bytes) overlaps front
  pub end : List ℕ
  pub ends : IsEndText (form_by asked.form bytes) bytes end
  pub told : said ≡ front ++ end

-- The line that says a tape's fault, and whether `mend` mends the tape.
abbrev pub IsFaultText : List ℕ → List ℕ → TapeFault → List ℕ → Type 0
IsFaultText file text fault said = (hint : List ℕ) × IsHint MEND_MENDS_IT.now text hint
    × (said ≡ fault_line file text fault ++ hint)

-- What is said of some tape with a fault: its first one.
pub record IsWrongTape (asked : InfoAsked) (said : List ℕ) : Type 0 where
  pub text : List ℕ
  pub fault : TapeFault
  pub first : FirstFault (as_read text) fault.kind fault.offset
  pub told : IsFaultText asked.tape text fault said

-- `mend` makes a right text of Intel HEX or of S-records.
abbrev pub AreMendable : TextForm → List ℕ → Type 0
AreMendable form bytes = (out : List ℕ) × (image : List (Option ℕ)) × (fault : Option RecordFault)
    × AreMendedLines form bytes out fault × (text_image form out ≡ Ok image)

-- The mended text still has a fault.
abbrev pub AreBeyondMending : TextForm → List ℕ → Type 0
AreBeyondMending form bytes = (fault : RecordFault)
    × (text_image form (mended_lines form bytes) ≡ Err fault)

-- Whether `mend` mends such a text.
abbrev pub IsRecordsHint : TextForm → List ℕ → List ℕ → Type 0
IsRecordsHint form bytes hint = ((hint ≡ MEND_MENDS_IT.now) × AreMendable form bytes)
    ⊎ ((hint ≡ []) × AreBeyondMending form bytes)

-- A line for each wrong checksum of such a text, and whether `mend` mends it; nothing of bytes in
-- another form, or that tell none.
abbrev pub IsSumsText : Result Form OtherText → List ℕ → List ℕ → Type 0
IsSumsText (Ok (Text form)) bytes sums = (hint : List ℕ) × IsRecordsHint form bytes hint
    × (sums ≡ flat_map (sum_text THE_CHECKSUM_IS.now AND_SHOULD_BE.now) (wrong_sums form bytes)
    ++ hint)
IsSumsText told bytes sums = sums ≡ []

-- No form is said of bytes, and they tell none.
abbrev pub tells_none : Option Form → NoImage → Bool
tells_none None (Looks like) = true
tells_none form no_image = false

-- What is said of such bytes, if `mend` makes a tape of them.
pub record IsOfCapture (asked : InfoAsked) (said : List ℕ) : Type 0 where
  pub bytes : List ℕ
  pub no_image : NoImage
  pub is : IsNoImage asked.form bytes (why.NoImage no_image)
  pub none : tells_none asked.form no_image ≡ true
  pub capture : IsMendableCapture bytes
  pub told : said ≡ shown_name asked.tape ++ CAPTURE.now

-- Such bytes are no capture.
abbrev pub IsNoCapture : Option Form → NoImage → List ℕ → Type 0
IsNoCapture form no_image bytes = (tells_none form no_image ≡ false) ⊎ IsBeyondCapture bytes

-- What is said of bytes that denote no image in another form, or that tell none.
pub record IsOther (asked : InfoAsked) (said : List ℕ) : Type 0 where
  pub bytes : List ℕ
  pub no_image : NoImage
  pub is : IsNoImage asked.form bytes (why.NoImage no_image)
  pub plain : IsNoCapture asked.form no_image bytes
  pub behind : List ℕ
  pub sums : IsSumsText (form_by asked.form bytes) bytes behind
  pub told : said ≡ no_image_text asked.tape no_image ++ behind
