-- What is shown by lines that only look. Source: mos65.
use Rattle.std.specs.Prelude.{ℕ, ◌+◌, ◌%◌, ◌==◌, zero, suc, min, nat_le, nat_lt, Bool, true, false, if◌then◌else◌, List, [], ◌∷◌, ◌++◌, None, codes, length, slice_index, take}
use Rattle.std.specs.List.{flat_map}
use Rattle.model.specs.State.{State}
use Rattle.model.specs.Text.{hex_byte}
use Rattle.mon_lines.specs.declared.command.Command.{Command}
use Rattle.mon_lines.specs.declared.command.Command.TheVariants as line
use Rattle.mon_texts.specs.Help.{help_text}
use Rattle.mon_instructions.specs.Listed.{listed_len, listed_line}
use Rattle.mon_texts.specs.Memory.{memory_text}
use Rattle.mon_texts.specs.Stack.{stack_text}
use Rattle.mon_instructions.specs.Places.{place_text}
use Rattle.mon_texts.specs.Registers.{flags_text, state_line}
use Rattle.mon_texts.specs.Screen.{screen_text}
use Rattle.mon_dispatch.specs.Forms.{forms_text}
use Rattle.source_map.specs.Lines.{PlacesView}
use Rattle.source_map.specs.Names.{Named}
use Rattle.mon_dispatch.specs.declared.wording.TheConstants.{AND_MORE, NOWHERE}

-- ---- instructions and data

-- Up to n rows from an address on, up to the one that ends at FFFF or goes past it.
unfoldable pub rows_text : ℕ → State → PlacesView → ℕ → List ℕ
rows_text zero state places address = []
rows_text (suc n) state places address =
    let next = address + listed_len state places.lines address in
    listed_line state places address
    ++ (if nat_le next 65535 then rows_text n state places next else [])

-- At most 256 of them are shown at once.
abbrev pub instructions_text : ℕ → State → PlacesView → ℕ → List ℕ
instructions_text count state places address = rows_text (min count 256) state places address

-- ---- bytes that are looked for

-- Whether bytes stand at an address. $0000 comes after $FFFF.
unfoldable pub stands_at : List ℕ → List ℕ → ℕ → Bool
stands_at memory [] address = true
stands_at memory (b ∷ bytes) address = if slice_index memory address == b
    then stands_at memory bytes ((address + 1) % 65536) else false

-- The addresses below a number at which they stand.
unfoldable pub found_below : List ℕ → List ℕ → ℕ → List ℕ
found_below memory bytes zero = []
found_below memory bytes (suc n) = found_below memory bytes n
    ++ (if stands_at memory bytes n then n ∷ [] else [])

abbrev pub found_line : List Named → ℕ → List ℕ
found_line names address = place_text names address ++ codes "\n"

-- That bytes stand nowhere, with these bytes.
abbrev pub sought_byte : ℕ → List ℕ
sought_byte byte = 32 ∷ hex_byte byte

unfoldable pub nowhere_text : List ℕ → List ℕ
nowhere_text bytes = NOWHERE.now ++ (flat_map sought_byte bytes ++ codes "\n")

-- At most 16 places are shown.
abbrev pub places_found : List ℕ → List Named → List ℕ → List ℕ
places_found bytes names addresses = if length addresses == 0 then nowhere_text bytes
    else flat_map (found_line names) (take 16 addresses)
    ++ (if nat_lt 16 (length addresses) then AND_MORE.now else [])

abbrev pub find_text : List ℕ → List ℕ → List Named → List ℕ
find_text memory bytes names
    = places_found bytes names (found_below memory bytes (length memory))

-- ---- the lines

-- What a line shows that only looks. Other lines show nothing here.
abbrev pub look_text : Command → State → PlacesView → List ℕ
look_text line.Regs state places = state_line state places.names None
look_text line.Flags state places = flags_text state.regs.flags
look_text (line.Mem stretch) state places = memory_text state.bus.memory stretch
look_text (line.Dis address count) state places
    = instructions_text count state places address
look_text (line.Find bytes) state places
    = find_text state.bus.memory bytes.items places.names
look_text line.Stack state places = stack_text state places
look_text line.Screen state places = screen_text state.bus.out
look_text (line.Help topic) state places = help_text topic
look_text (line.Forms mnemonic) state places = forms_text state.bus.map.profile mnemonic
look_text command state places = []
