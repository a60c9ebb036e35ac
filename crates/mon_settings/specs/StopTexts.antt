-- What is said of breaks and watches. Source: mos65.
use Rattle.std.specs.Prelude.{ℕ, ◌==◌, ◌&&◌, ◌+◌, nat_le, nat_lt, not, Bool, false, if◌then◌else◌, List, [], ◌∷◌, ◌++◌, drop, length, take, get_or, Option, None, Some, codes}
use Rattle.std.specs.List.{flat_map}
use Rattle.std.specs.Str.{bytes_eq}
use Rattle.model.specs.Text.{hex_address}
use Rattle.mon_settings.specs.StopLines.{Standing, deleted_at, stands_at}
use Rattle.mon_texts.specs.Pushed.{is_code}
use Rattle.mon_settings.specs.declared.watches.Unwatched.{Unwatched}
use Rattle.mon_settings.specs.declared.watches.Unwatched.TheVariants.{Port, Full, Wide}
use Rattle.mon_lines.specs.declared.command.Register.{Register}
use Rattle.mon_lines.specs.declared.command.Test.{Test}
use Rattle.mon_runs.specs.declared.breaks.Break.{Break}
use Rattle.mon_runs.specs.declared.watches.Watch.{Watch}
use Rattle.mon_runs.specs.declared.watches.Watch.TheVariants as watching
use Rattle.mon_instructions.specs.Places.{place_text}
use Rattle.mon_texts.specs.Stops.{break_line, register_name, register_watch_line, watch_line}
use Rattle.source_map.specs.Lines.{PlacesView, row_at}
use Rattle.source_map.specs.Names.{Named, first_text, name_at}
use Rattle.mon_session.specs.declared.wording.TheConstants.{BREAKS_FULL}
use Rattle.mon_settings.specs.declared.wording.TheConstants.{DELETED, NOTHING_AT, NOTHING_SET, NOT_WATCHED, NO_INSTRUCTION_BEGINS, PORT_UNWATCHED, SECOND_ADDRESS, WATCHES_FULL, WATCH_TOO_WIDE}

-- ---- a break

-- The line of a break: its place, its tests, and how often they have to hold.
abbrev pub break_text : List Named → Break → List ℕ
break_text names stop = break_line names (stop.address ∷ []) stop.tests.items stop.times

-- That no instruction of the source begins at an address, if all lines of the program are known.
abbrev pub none_begins : List Named → ℕ → List ℕ
none_begins names address
    = NO_INSTRUCTION_BEGINS.now ++ place_text names address ++ codes "\n"

unfoldable pub lines_text : PlacesView → ℕ → List ℕ
lines_text places address
    = if places.is_whole && nat_lt 0 (length places.lines)
    && not (is_code (row_at places.lines address))
    then none_begins places.names address else []

-- A name is a text with a colon and its own address behind it, as `loop:E150`: the text had another
-- address before.
abbrev pub is_again : List ℕ → Named → Bool
is_again text name = if nat_le (length name.text) (length text) then false
    else (get_or name.text (length text) 0 == 58) && bytes_eq (take (length text) name.text) text
    && bytes_eq (drop (length text + 1) name.text) (hex_address name.address)

abbrev pub again_of : List Named → Option (List ℕ) → Option (List ℕ)
again_of names None = None
again_of names (Some text) = first_text (is_again text) names

abbrev pub again_line : Option (List ℕ) → List ℕ
again_line None = []
again_line (Some other) = SECOND_ADDRESS.now ++ other ++ codes "\n"

-- That the name of an address has a second one.
unfoldable pub again_text : List Named → ℕ → List ℕ
again_text names address = again_line (again_of names (name_at names address))

-- What is to be known of a break at an address.
abbrev pub break_notes : PlacesView → ℕ → List ℕ
break_notes places address = lines_text places address ++ again_text places.names address

-- What is said of breaks that are set, or that there is no room for.
abbrev pub set_text : PlacesView → List ℕ → List Test → ℕ → Bool → List ℕ
set_text places addresses tests times has_room = if has_room
    then break_line places.names addresses tests times ++ flat_map (break_notes places) addresses
    else BREAKS_FULL.now

-- ---- a watch

-- The line of a watch: the first and the last address, and what is watched; or the register.
abbrev pub watch_text : List Named → Watch → List ℕ
watch_text names (watching.Bytes stretch kind) = watch_line names stretch kind
watch_text names (watching.Register register) = register_watch_line register

-- Why a watch cannot be set.
abbrev pub unwatched_text : Unwatched → List ℕ
unwatched_text Port
    = PORT_UNWATCHED.now
unwatched_text Full = WATCHES_FULL.now
unwatched_text Wide = WATCH_TOO_WIDE.now

-- What is said of a watch that is set, or that cannot be.
abbrev pub watched_text : List Named → Watch → Option Unwatched → List ℕ
watched_text names watch None = watch_text names watch
watched_text names watch (Some why) = unwatched_text why

-- ---- both

-- What is said once nothing stands at an address, or where nothing stood there.
abbrev pub deleted_text : List Named → ℕ → Bool → List ℕ
deleted_text names address stood = (if stood then DELETED.now
    else NOTHING_AT.now) ++ place_text names address ++ codes "\n"

-- The same of addresses that are cleared one after another.
abbrev pub all_deleted_text : List Named → List ℕ → Standing → List ℕ
all_deleted_text names [] now = []
all_deleted_text names (address ∷ rest) now
    = deleted_text names address (stands_at address now.watches now.session)
    ++ all_deleted_text names rest (deleted_at address now)

-- What is said once a register is not watched, or where it was not watched.
abbrev pub register_deleted_text : Register → Bool → List ℕ
register_deleted_text register stood = if stood
    then DELETED.now ++ (register_name register ++ codes "\n")
    else register_name register ++ NOT_WATCHED.now

-- All breaks and watches.
abbrev pub stops_text : List Named → List Break → List Watch → List ℕ
stops_text names breaks watches
    = flat_map (break_text names) breaks ++ flat_map (watch_text names) watches

abbrev pub list_text : List Named → List Break → List Watch → List ℕ
list_text names [] [] = NOTHING_SET.now
list_text names [] (w ∷ watches) = stops_text names [] (w ∷ watches)
list_text names (b ∷ breaks) watches = stops_text names (b ∷ breaks) watches
