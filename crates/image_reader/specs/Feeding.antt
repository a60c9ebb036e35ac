-- A reader that is fed a text of records in pieces.
use Rattle.std.specs.Prelude.{◌≡◌, ℕ, ◌==◌, nat_lt, if◌then◌else◌, List, [], ◌∷◌, ◌++◌, length, Option, None, Some, Result, Ok, Err}
use Rattle.std.specs.Io.BufRead.{strip_last}
use Rattle.image_reader.specs.declared.fault.RecordFault.{RecordFault}
use Rattle.image_reader.specs.declared.form.TextForm.{TextForm}
use Rattle.image_reader.specs.Progress.{Progress, start}
use Rattle.image_reader.specs.Records.{◌>>=◌}
use Rattle.image_reader.specs.Texts.{finished, next_line, numbered, read_line}

-- what was read of the lines before, the number of the line begun, and its first bytes
pub record Begun : Type 0 where
  pub progress : Progress
  pub line : ℕ
  pub held : List ℕ

-- that, or the fault that was met
abbrev pub Fed : Type 0
Fed = Result Begun RecordFault

abbrev pub nothing_fed : TextForm → Fed
nothing_fed form = Ok (record { progress = start form; line = 1; held = [] })

-- the first 523 bytes of a line are held: no record has more than 521, and CR may come behind
abbrev pub held_with : List ℕ → ℕ → List ℕ
held_with held b = if nat_lt (length held) 523 then held ++ b ∷ [] else held

-- the line begun ends
unfoldable pub line_ended : Begun → Fed
line_ended r = numbered r.line (read_line r.progress (strip_last 13 r.held))
    >>= λ s. Ok (record { progress = s; line = next_line r.line; held = [] })

-- one byte more
unfoldable pub fed_byte : ℕ → Begun → Fed
fed_byte b r = if b == 10 then line_ended r else Ok (record r { held = held_with r.held b })

-- a piece more
abbrev pub fed : Fed → List ℕ → Fed
fed s [] = s
fed s (b ∷ bytes) = fed (s >>= fed_byte b) bytes

-- the text ends, and with it the line begun: the number of the next line, and what was read
abbrev pub end_held : List ℕ → Begun → Result (ℕ × Progress) RecordFault
end_held [] r = Ok (r.line, r.progress)
end_held (b ∷ bytes) r = numbered r.line (read_line r.progress (b ∷ bytes))
    >>= λ s. Ok (next_line r.line, s)

unfoldable pub all_read : Begun → Result (ℕ × Progress) RecordFault
all_read r = end_held r.held r

abbrev pub read_by_feeding : Fed → Result (ℕ × Progress) RecordFault
read_by_feeding s = s >>= all_read

abbrev pub end_of_feeding : Fed → Result (List (Option ℕ)) RecordFault
end_of_feeding s = read_by_feeding s >>= λ t. finished t.0 t.1

-- where data records overlap
abbrev pub overlaps_of_feeding : Fed → Result (List (Option ℕ)) RecordFault
overlaps_of_feeding s = read_by_feeding s >>= λ t. Ok t.1.again

-- what a call says of the reader that it leaves: nothing, or its fault
abbrev pub answer_of : Fed → Result Unit RecordFault
answer_of (Ok s) = Ok tt
answer_of (Err f) = Err f

-- a reader that has failed, or goes on
abbrev pub fed_of : Option RecordFault → Begun → Fed
fed_of None r = Ok r
fed_of (Some f) r = Err f

-- what a step of the code returned, and what it left, is what the step gives; after a fault nothing
-- is said of what it left
abbrev pub GivesBegun : Result Unit RecordFault → Begun → Fed → Type 0
GivesBegun (Ok u) new gives = gives ≡ Ok new
GivesBegun (Err f) new gives = gives ≡ Err f
