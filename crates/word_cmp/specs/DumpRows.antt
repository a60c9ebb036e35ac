-- What `cmp` says last of two images that differ: in how many bytes, and which fault of lines
-- explains all of it. Source: mos65.
use Rattle.std.specs.Prelude.{ℕ, ◌==◌, not, Bool, true, false, if◌then◌else◌, List, [], ◌∷◌, ◌++◌, codes, decimal, length}
use Rattle.std.specs.List.{flat_map, list_all}
use Rattle.dump_faults.specs.Changes.{changes_of, flips_of}
use Rattle.dump_faults.specs.Faults.{faults_between, stuck_between}
use Rattle.dump_faults.specs.declared.changes.Change.{Change}
use Rattle.dump_faults.specs.declared.changes.Flip.{Flip}
use Rattle.dump_faults.specs.declared.faults.Bus.{Bus}
use Rattle.dump_faults.specs.declared.faults.Bus.TheVariants.{Address, Data}
use Rattle.dump_faults.specs.declared.faults.Fault.{Fault}
use Rattle.dump_faults.specs.declared.faults.Fault.TheVariants.{Exchanged, Inverted, Stuck as stuck_at}
use Rattle.dump_faults.specs.declared.faults.Stuck.{Stuck}
use Rattle.word_cmp.specs.DifferenceRows.{SideView}
use Rattle.word_cmp.specs.declared.wording.TheConstants.{AND, AND_0_IN, AND_1_IN, AT_0, AT_1, BYTE_DIFFERS, BYTES_DIFFER, EXCHANGED, IN_ONE_BIT, INVERTED, IS, IS_0_IN, IS_1_IN, WITH}
use Rattle.tape_words.specs.Answers.{counted}

-- ---- how many bytes differ

-- Whether two changes of one line are of the same line; and whether from the same value.
abbrev pub is_of_line : ℕ → Flip → Bool
is_of_line line flip = flip.line == line

abbrev pub is_from : Bool → Flip → Bool
is_from true flip = flip.was
is_from false flip = not flip.was

-- Which value a line has on each side, if it is always the same: ` is 0 in ONE and 1 in OTHER`.
abbrev pub first_value : Bool → List ℕ
first_value true = IS_1_IN.now
first_value false = IS_0_IN.now

abbrev pub second_value : Bool → List ℕ
second_value true = AND_0_IN.now
second_value false = AND_1_IN.now

unfoldable pub sides_text : SideView → SideView → Bool → List ℕ
sides_text one other was = first_value was ++ one.name ++ second_value was ++ other.name

abbrev pub values_text : SideView → SideView → Bool → List Flip → List ℕ
values_text one other was flips = if list_all (is_from was) flips
    then sides_text one other was else []

-- Which data line it is: its name behind a colon, and its values.
unfoldable pub known_line_text : SideView → SideView → Flip → List Flip → List ℕ
known_line_text one other flip flips = codes ": D" ++ decimal flip.line
    ++ values_text one other flip.was flips

abbrev pub which_text : SideView → SideView → Flip → List Flip → List ℕ
which_text one other flip flips = if list_all (is_of_line flip.line) flips
    then known_line_text one other flip flips else []

-- How many bytes differ in one line alone: `, 8013 in one bit`.
unfoldable pub some_flips_text : SideView → SideView → Flip → List Flip → List ℕ
some_flips_text one other flip flips = codes ", " ++ decimal (length flips) ++ IN_ONE_BIT.now
    ++ which_text one other flip flips

abbrev pub flips_text : SideView → SideView → List Flip → List ℕ
flips_text one other [] = []
flips_text one other (flip ∷ flips) = some_flips_text one other flip (flip ∷ flips)

-- The row of the bytes that differ where both sides have one: `8013 bytes differ`, and what is
-- known of their lines.
unfoldable pub count_row : SideView → SideView → List Change → List ℕ
count_row one other changes = counted (length changes) BYTE_DIFFERS.now BYTES_DIFFER.now
    ++ flips_text one other (flips_of changes) ++ codes "\n"

abbrev pub changes_text : SideView → SideView → List Change → List ℕ
changes_text one other changes = if length changes == 0 then [] else count_row one other changes

-- ---- faults that explain all of it

-- A line's name on a data sheet: the letter of its bus, and its number.
abbrev pub line_name : Bus → ℕ → List ℕ
line_name Data line = codes "D" ++ decimal line
line_name Address line = codes "A" ++ decimal line

abbrev pub value_name : Bool → List ℕ
value_name true = AT_1.now
value_name false = AT_0.now

-- What a fault does: a line is at 0 or at 1, or two lines are exchanged.
unfoldable pub stuck_text : Stuck → List ℕ
stuck_text stuck = line_name stuck.bus stuck.line ++ value_name stuck.value

unfoldable pub exchange_text : Bus → ℕ → ℕ → List ℕ
exchange_text bus one other = line_name bus one ++ AND.now ++ line_name bus other ++ EXCHANGED.now

abbrev pub fault_text : Fault → List ℕ
fault_text (stuck_at stuck) = stuck_text stuck
fault_text (Exchanged bus one other) = exchange_text bus one other
fault_text Inverted = INVERTED.now

-- How the row of a fault begins that explains one side by the other: `ONE is OTHER with `.
unfoldable pub explained_text : SideView → SideView → List ℕ
explained_text one other = one.name ++ IS.now ++ other.name ++ WITH.now

-- The row: which side it explains by the other, and the fault.
unfoldable pub fault_row : SideView → SideView → Fault → List ℕ
fault_row one other fault = explained_text one other ++ fault_text fault ++ codes "\n"

-- The rows of lines that always have one value on one side.
abbrev pub stuck_row : SideView → SideView → Stuck → List ℕ
stuck_row one other stuck = fault_row one other (stuck_at stuck)

abbrev pub stuck_rows : SideView → SideView → List ℕ
stuck_rows one other = flat_map (stuck_row one other) (stuck_between one.image other.image)

-- The rows of the other faults.
abbrev pub fault_rows : SideView → SideView → List ℕ
fault_rows one other = flat_map (fault_row one other) (faults_between one.image other.image)

-- ---- all of it

-- What is said last: how many bytes differ, and the faults that explain the one side by the other,
-- or the other by the one.
unfoldable pub dump_text : SideView → SideView → List ℕ
dump_text one other = changes_text one other (changes_of one.image other.image)
    ++ stuck_rows one other ++ fault_rows one other ++ stuck_rows other one
