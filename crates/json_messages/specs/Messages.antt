-- The messages of a byte stream: a header of fields, a blank line, and a body of so many bytes as
-- the field Content-Length of the header says. Source: Debug Adapter Protocol, "Base protocol";
-- Language Server Protocol 3.17, "Base Protocol"; letters and blanks of a field, RFC 9110, "Fields";
-- the limits, mos65.
use Rattle.std.specs.Prelude.{ℕ, ◌+◌, ◌-◌, ◌*◌, ◌==◌, ◌≤◌, ◌≡◌, ◌&&◌, ◌||◌, nat_le, nat_lt, Bool, true, if◌then◌else◌, List, [], ◌∷◌, ◌++◌, length, take, drop, Option, Some, None, option_and_then, codes, decimal}
use Rattle.std.specs.List.{prefix_len, starts_with}
use Rattle.std.specs.Str.{str_eq_ignore_ascii_case}
use Rattle.json_messages.specs.declared.front.Front.{Front}
use Rattle.json_messages.specs.declared.front.Front.TheVariants.{Message, Open, NoLength, LongHeader}

-- ---- the header

-- What ends a header: the end of its last line, and a blank line.
abbrev pub blank_line : List ℕ
blank_line = 13 ∷ 10 ∷ 13 ∷ 10 ∷ []

-- Whether such stands in front.
unfoldable pub ends_header : List ℕ → Bool
ends_header bytes = starts_with (λ x y. x == y) bytes blank_line

-- Where the first such begins, if these bytes stand behind so many others.
unfoldable pub header_from : ℕ → List ℕ → Option ℕ
header_from at [] = None
header_from at (b ∷ bs) = if ends_header (b ∷ bs) then Some at else header_from (at + 1) bs

-- How many bytes stand before the first such.
abbrev pub header_len : List ℕ → Option ℕ
header_len bytes = header_from 0 bytes

-- ---- the length that it gives

-- The most bytes of a body.
abbrev pub most_body : ℕ
most_body = 16777216

abbrev pub is_digit : ℕ → Bool
is_digit b = nat_le 48 b && nat_le b 57

-- A number with one more digit. None where a byte is no digit, or where the number is too large.
unfoldable pub with_digit : ℕ → ℕ → Option ℕ
with_digit number b = if is_digit b && nat_le (number * 10 + (b - 48)) most_body
    then Some (number * 10 + (b - 48)) else None

-- The number that is read up to a CR, or to the end, behind the digits of a number.
unfoldable pub number_from : ℕ → List ℕ → Option ℕ
number_from number [] = Some number
number_from number (b ∷ bs) = if b == 13 then Some number
    else option_and_then (λ more. number_from more bs) (with_digit number b)

-- At least one digit is wanted.
abbrev pub number_in : List ℕ → Option ℕ
number_in [] = None
number_in (b ∷ bs) = if is_digit b then number_from 0 (b ∷ bs) else None

-- What stands before the number where a message is written.
abbrev pub length_field : List ℕ
length_field = codes "Content-Length: "

-- The name of the field that gives the length, and the colon behind it. Letters of either case name
-- it.
abbrev pub is_length_name : List ℕ → Bool
is_length_name text = str_eq_ignore_ascii_case text (codes "Content-Length:")

unfoldable pub begins_field : List ℕ → Bool
begins_field bytes = is_length_name (take 15 bytes)

-- What stands behind the blanks in front.
abbrev pub is_blank : ℕ → Bool
is_blank b = b == 32 || b == 9

abbrev pub skip : List ℕ → List ℕ
skip bytes = drop (prefix_len is_blank bytes) bytes

-- The number of this field, before which blanks may stand.
abbrev pub value_in : List ℕ → Option ℕ
value_in field = number_in (skip (drop 15 field))

-- The number of the first line that is this field. `begins` says whether a line begins here.
unfoldable pub length_in : Bool → List ℕ → Option ℕ
length_in begins [] = None
length_in begins (b ∷ bs) = if begins && begins_field (b ∷ bs)
    then value_in (b ∷ bs) else length_in (b == 10) bs

-- ---- what stands in front

-- The most bytes of a header, its blank line left out.
abbrev pub most_header : ℕ
most_header = 4096

-- A body of so many bytes behind a header of so many, if it is whole.
abbrev pub body_at : ℕ → ℕ → Option ℕ → Front
body_at all header None = NoLength
body_at all header (Some len) = if nat_lt all (header + 4 + len) then Open
    else Message (header + 4) (header + 4 + len)

abbrev pub behind_header : List ℕ → Option ℕ → Front
behind_header bytes None = if nat_lt (most_header + 3) (length bytes) then LongHeader else Open
behind_header bytes (Some header) = if nat_lt most_header header then LongHeader
    else body_at (length bytes) header (length_in true (take header bytes))

abbrev pub front_of : List ℕ → Front
front_of bytes = behind_header bytes (header_len bytes)

-- ---- messages

-- A message with this body.
abbrev pub framed : List ℕ → List ℕ
framed body = codes "Content-Length: " ++ decimal (length body) ++ blank_line ++ body

-- A message stands in front, with this body and these bytes behind it.
abbrev pub IsFront : List ℕ → List ℕ → List ℕ → Type 0
IsFront bytes body rest = (start : ℕ) × (end : ℕ) × (front_of bytes ≡ Message start end)
    × (body ≡ take (end - start) (drop start bytes)) × (rest ≡ drop end bytes)

-- These are the bodies of the first messages of a stream, and these the bytes behind them.
unfoldable pub AreMessages : List ℕ → List (List ℕ) → List ℕ → Type 0
AreMessages bytes [] rest = rest ≡ bytes
AreMessages bytes (body ∷ bodies) rest = (behind : List ℕ) × IsFront bytes body behind
    × AreMessages behind bodies rest

-- A message that is written is read again, whatever comes behind it.
abbrev pub ReadsAgain : Type 0
ReadsAgain = (body rest : List ℕ) → length body ≤ most_body → IsFront (framed body ++ rest) body rest

-- A message in front stays there, whatever comes behind the bytes. So the messages of a stream are
-- the same, however it is cut into pieces.
abbrev pub Stays : Type 0
Stays = (bytes more body rest : List ℕ) → IsFront bytes body rest
    → IsFront (bytes ++ more) body (rest ++ more)
