-- What a reader has seen of a tape, and how the next byte changes it.
use Rattle.std.specs.Prelude.{◌≡◌, ℕ, ◌+◌, ◌<◌, ◌==◌, nat_lt, nat_le, if◌then◌else◌, List, [], ◌∷◌, ◌++◌, length, take, ◌⊎◌, Option, Result, Ok, Err}
use Rattle.model.specs.Digits.{is_hex_byte}
use Rattle.model.specs.declared.tape.TapeFault.{TapeFault}
use Rattle.model.specs.declared.tape.TapeFaultKind.{TapeFaultKind}
use Rattle.model.specs.declared.tape.TapeFaultKind.TheVariants.{NoRecord, BadHex, BadChecksum, PastEnd, Truncated, BadCount, JunkAfterEnd, JunkBetween}
use Rattle.papertape.specs.declared.reading.Place.{Place}
use Rattle.papertape.specs.declared.reading.Place.TheVariants.{Between, Within, After}
use Rattle.model.specs.TapeFault.{out_of_memory}
use Rattle.model.specs.Image.{empty_image, with_bytes}
use Rattle.model.specs.Tape.{Claim, claim_of, needed, is_skipped, AreFewDigits}

-- what was read so far
pub record Progress : Type 0 where
  pub cells : List (Option ℕ)
  -- data records, up to 65536
  pub count : ℕ
  pub place : Place
  -- the offset of the last `;`
  pub start : ℕ
  -- the digits so far of the record begun
  pub digits : List ℕ

abbrev pub fault_at : TapeFaultKind → ℕ → Result Progress TapeFault
fault_at kind offset = Err (record { offset = offset; kind = kind })

-- the count goes no further than an end record can claim, and one
abbrev pub next_count : ℕ → ℕ
next_count n = if nat_lt n 65536 then n + 1 else n

-- an end record
abbrev pub after_end_record : Progress → Claim → Result Progress TapeFault
after_end_record s claim = if claim.address == s.count then Ok (record s { place = After; digits = [] })
    else fault_at BadCount s.start

-- a data record
abbrev pub after_data_record : Progress → Claim → Result Progress TapeFault
after_data_record s claim =
    if nat_le (claim.address + claim.length) 65536
    then Ok (record s {
      place = Between;
      digits = [];
      count = next_count s.count;
      cells = with_bytes s.cells claim.address claim.bytes;
    })
    else fault_at PastEnd s.start

-- all digits of a record are there, and this is what they claim
unfoldable pub after_record : Progress → Claim → Result Progress TapeFault
after_record s claim = if claim.sum == claim.checksum
    then (if claim.length == 0 then after_end_record s claim else after_data_record s claim)
    else fault_at BadChecksum s.start

-- one digit more
unfoldable pub with_digit : Progress → ℕ → Result Progress TapeFault
with_digit s b =
    let digits : List ℕ = s.digits ++ b ∷ [] in
    if nat_lt (length digits) (needed digits) then Ok (record s { digits = digits })
    else after_record s (claim_of digits)

-- one byte more, by where the reader stands
abbrev pub step_in : ℕ → Progress → ℕ → Place → Result Progress TapeFault
step_in offset s b Between = if b == 59
    then Ok (record s { place = Within; start = offset; digits = [] })
    else (if is_skipped b then Ok s else fault_at JunkBetween offset)
step_in offset s b Within = if is_hex_byte b then with_digit s b else fault_at BadHex offset
step_in offset s b After = if is_skipped b then Ok s else fault_at JunkAfterEnd offset

-- one byte more, at an offset: the state after it, or the fault
unfoldable pub step : ℕ → Progress → ℕ → Result Progress TapeFault
step offset s b = step_in offset s b s.place

infixl 10 ◌>>=◌
abbrev pub ◌>>=◌ : {A B : Type 0} → Result A TapeFault → (A → Result B TapeFault)
    → Result B TapeFault
(Ok x) >>= f = f x
(Err e) >>= f = Err e

-- the bytes from an offset on
abbrev pub run : ℕ → Progress → List ℕ → Result Progress TapeFault
run offset s [] = Ok s
run offset s (b ∷ bytes) = step offset s b >>= λ t. run (offset + 1) t bytes

-- the end of the text
abbrev pub result_in : ℕ → Progress → Place → Result (List (Option ℕ)) TapeFault
result_in offset s Between = if s.count == 0
    then Err (record { offset = offset; kind = NoRecord })
    else Err (record { offset = offset; kind = Truncated })
result_in offset s Within = Err (record { offset = offset; kind = Truncated })
result_in offset s After = Ok s.cells

unfoldable pub result_at : ℕ → Progress → Result (List (Option ℕ)) TapeFault
result_at offset s = result_in offset s s.place

-- nothing was read
abbrev pub start : Progress
start = record { cells = empty_image; count = 0; place = Between; start = 0; digits = [] }

-- what reading a whole text gives
unfoldable pub read_of : List ℕ → Result (List (Option ℕ)) TapeFault
read_of text = run 0 start text >>= result_at (length text)

-- what a step of the code returned, and what it left, is what the step gives; after a fault nothing
-- is said of what it left
abbrev pub Gives : Result Unit TapeFault → Progress → Result Progress TapeFault → Type 0
Gives (Ok u) new gives = gives ≡ Ok new
Gives (Err f) new gives = gives ≡ Err f

-- the buffer has the digits of a record begun
pub record HoldsDigits (held : ℕ) (digits : List ℕ) : Type 0 where
  pub room : held < 520
  pub few : AreFewDigits (take held digits)

-- an answer is what reading gives, unless memory ran out
abbrev pub AnswersReading : Result (List (Option ℕ)) TapeFault → Result (List (Option ℕ)) TapeFault
    → Type 0
AnswersReading (Ok cells) gives = gives ≡ Ok cells
AnswersReading (Err f) gives = (f ≡ out_of_memory) ⊎ (gives ≡ Err f)
