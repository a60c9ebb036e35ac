-- Where a program ends before a BRK that has no handler. Source: mos65.
use Rattle.std.specs.Prelude.{ℕ, ◌+◌, ◌-◌, ◌%◌, ◌&&◌, ◌||◌, Bool, false, not, nat_lt, if◌then◌else◌, List, [], ◌++◌, length, Option, None, Some}
use Rattle.model.specs.State.{State}
use Rattle.model.specs.Text.{hex_address}
use Rattle.mon_instructions.specs.Places.{place_text}
use Rattle.mon_runs.specs.Rests.{has_no_handler}
use Rattle.source_map.specs.Lines.{PlacesView, data_left, line_words, row_at}
use Rattle.source_map.specs.declared.rows.Row.{Row}
use Rattle.mon_steps.specs.declared.wording.TheConstants.{BRK_AT, ENDED_IT, FROM, NOTHING_AT, NOTHING_STANDS, NO_SERVICE, RAN_INTO, WAYS_ON}

-- ---- whether anything stands at an address

-- Whether there is a line and it has more than so many bytes.
abbrev pub reaches : ℕ → Option Row → Bool
reaches behind None = false
reaches behind (Some row) = nat_lt behind row.count

-- The address so many before another. $FFFF comes before $0000.
abbrev pub before : ℕ → ℕ → ℕ
before address count = (address + (65536 - count)) % 65536

-- Whether a line of the source has a byte at an address: one that begins there, an instruction of
-- two or three bytes that begins before it, or data.
abbrev pub is_in_line : List Row → ℕ → Bool
is_in_line lines address = reaches 0 (row_at lines address)
    || reaches 1 (row_at lines (before address 1))
    || reaches 2 (row_at lines (before address 2))
    || nat_lt 0 (data_left lines address)

-- Whether all lines of a program are known, and none has a byte at an address.
abbrev pub is_stray : PlacesView → ℕ → Bool
is_stray places address = places.is_whole && nat_lt 0 (length places.lines)
    && not (is_in_line places.lines address)

-- ---- what is said

-- An address, with its name and the line that begins there: `020B sub+3, hunt.a65:8`.
abbrev pub site_text : PlacesView → ℕ → List ℕ
site_text places address
    = place_text places.names address ++ line_words places.sources (row_at places.lines address)

-- From where the program came, if that is known.
abbrev pub from_text : PlacesView → Option ℕ → List ℕ
from_text places None = []
from_text places (Some address) = FROM.now ++ site_text places address

-- That the program ran to an address where nothing stands.
unfoldable pub strayed_text : ℕ → List ℕ
strayed_text pc = RAN_INTO.now ++ hex_address pc ++ NOTHING_STANDS.now

-- The same, and from where the program came there.
abbrev pub stray_text : PlacesView → Option ℕ → ℕ → List ℕ
stray_text places from pc = strayed_text pc ++ from_text places from

-- That a BRK at an address ended the program.
abbrev pub brk_text : PlacesView → ℕ → List ℕ
brk_text places pc = BRK_AT.now ++ site_text places pc ++ ENDED_IT.now

-- What is said of a BRK at an address that has no handler.
unfoldable pub unserved_text : PlacesView → Option ℕ → ℕ → List ℕ
unserved_text places from pc = if is_stray places pc then stray_text places from pc
    else brk_text places pc

-- ---- before further steps

-- That nothing stands at an address.
unfoldable pub nothing_text : ℕ → List ℕ
nothing_text pc = NOTHING_AT.now ++ hex_address pc

-- Why a program has ended before a BRK at an address.
unfoldable pub over_cause : PlacesView → ℕ → List ℕ
over_cause places pc = if is_stray places pc then nothing_text pc else NO_SERVICE.now

-- That the program has ended before a BRK at an address, and what can be done then.
abbrev pub over_words : PlacesView → ℕ → List ℕ
over_words places pc = over_cause places pc ++ WAYS_ON.now

-- What is said before steps are made: that the program has ended, if a BRK comes next that has no
-- handler.
unfoldable pub ended_text : State → PlacesView → List ℕ
ended_text state places = if has_no_handler state then over_words places state.regs.pc else []
