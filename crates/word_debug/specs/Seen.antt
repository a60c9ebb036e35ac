-- What is seen in the bytes of replies: whether a line begins with `?` or `!`, or tells that a run
-- ended in a fault. Source: mos65.
use Rattle.std.specs.Prelude.{ℕ, Bool, false, ◌||◌, ◌==◌, if◌then◌else◌, List, [], ◌∷◌}
use Rattle.word_debug.specs.declared.seen.LineState.{LineState}
use Rattle.word_debug.specs.declared.seen.LineState.TheVariants.{Start, Letter, Run, Steps, Why, Rest}
use Rattle.word_debug.specs.declared.seen.Seen.{Seen}

-- The place in a line after a byte that does not end it. Only the reply to a run begins with `DI`:
-- `DID 5 LIMIT`, for example.
abbrev pub place_in_line : LineState → ℕ → LineState
place_in_line Start byte = if byte == 68 then Letter else Rest
place_in_line Letter byte = if byte == 73 then Run else Rest
place_in_line Run byte = if byte == 32 then Steps else Run
place_in_line Steps byte = if byte == 32 then Why else Steps
place_in_line Why byte = Rest
place_in_line Rest byte = Rest

abbrev pub place_after : LineState → ℕ → LineState
place_after place byte = if byte == 10 then Start else place_in_line place byte

-- A line tells of a fault if it begins with `?` or `!`, or if why a run ended begins with F or C:
-- `FAULT 02 AT 0200`, `CONSOLE FULL`, `CYCLES FULL`. The others are `WATCH`, `BREAK` and `LIMIT`.
abbrev pub tells_fault : LineState → ℕ → Bool
tells_fault Start byte = (byte == 63) || (byte == 33)
tells_fault Why byte = (byte == 70) || (byte == 67)
tells_fault place byte = false

-- What is seen after one byte more.
abbrev pub next : Seen → ℕ → Seen
next seen byte = record {
  place = place_after seen.place byte;
  has_fault = seen.has_fault || tells_fault seen.place byte;
}

-- What is seen after some bytes more.
unfoldable pub after_all : Seen → List ℕ → Seen
after_all seen [] = seen
after_all seen (byte ∷ bytes) = after_all (next seen byte) bytes

-- What is seen in some replies.
abbrev pub seen_in : List ℕ → Seen
seen_in text = after_all (record { place = Start; has_fault = false }) text
