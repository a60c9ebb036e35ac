-- A source whose tables in two halves have labels in the place of their numbers. Source: mos65.
use Rattle.std.specs.Prelude.{ℕ, zero, suc, ◌+◌, ◌-◌, ◌*◌, ◌%◌, ◌==◌, ◌&&◌, ◌||◌, nat_lt, not, Bool, true, false, if◌then◌else◌, List, [], ◌∷◌, ◌++◌, codes, decimal, find, take, length, unwrap_or, Option, Some, None, is_some}
use Rattle.std.specs.List.{starts_with}
use Rattle.std.specs.Option.{option_map_or, option_or}
use Rattle.assembler.specs.Lines.{LineView}
use Rattle.marks_files.specs.declared.marks.Split.{Split}
use Rattle.model.specs.Image.{cell_at}
use Rattle.model.specs.InstructionText.{byte_text}
use Rattle.remarked_source.specs.Rows.{is_label, lies_in}
use Rattle.remarked_source.specs.declared.splits.Entry.{Entry}
use Rattle.source_forms.specs.Pieces.{label_text}

-- ---- the words of a table

abbrev pub target_of : Option ℕ → Option ℕ → ℕ → Option ℕ
target_of None high more = None
target_of (Some low) None more = None
target_of (Some low) (Some high) more = Some ((low + 256 * high + more) % 65536)

-- The address to which a word leads, where both its bytes are there.
abbrev pub target_at : List (Option ℕ) → Split → ℕ → Option ℕ
target_at image split i = target_of (cell_at image (split.low + i))
    (cell_at image (split.high + i)) split.more

abbrev pub leads_in : ℕ → ℕ → Option ℕ → Bool
leads_in low high None = false
leads_in low high (Some target) = lies_in low high target

-- One of the first words leads to an address at one or above it, and below another.
unfoldable pub leads_by : List (Option ℕ) → Split → ℕ → ℕ → ℕ → Bool
leads_by image split zero low high = false
leads_by image split (suc n) low high = leads_in low high (target_at image split n)
    || leads_by image split n low high

-- A word of one of some tables does.
abbrev pub leads : List (Option ℕ) → List Split → ℕ → ℕ → Bool
leads image [] low high = false
leads image (split ∷ splits) low high = leads_by image split split.count low high
    || leads image splits low high

-- ---- the byte at an address

abbrev pub entry_of : Bool → ℕ → Option ℕ → Option Entry
entry_of is_high more None = None
entry_of is_high more (Some target)
    = Some (record { is_high = is_high; target = target; more = more })

-- Which half of which word of a table it is.
abbrev pub entry_in : List (Option ℕ) → Split → ℕ → Option Entry
entry_in image split address =
    if lies_in split.low (split.low + split.count) address
    then entry_of false split.more (target_at image split (address - split.low))
    else if lies_in split.high (split.high + split.count) address
    then entry_of true split.more (target_at image split (address - split.high))
    else None

-- The same of the first table that has it.
abbrev pub entry_at : List (Option ℕ) → List Split → ℕ → Option Entry
entry_at image [] address = None
entry_at image (split ∷ splits) address
    = option_or (entry_in image split address) (entry_at image splits address)

-- ---- labels

-- A line has the byte of an address; a label stands at one.
abbrev pub covers : ℕ → LineView → Bool
covers address l = lies_in l.address (l.address + l.count) address

abbrev pub is_label_at : ℕ → LineView → Bool
is_label_at address l = is_label l.text && (l.address == address)

-- The name of the first label at an address; where none is, one is made of the address.
abbrev pub label_name : LineView → List ℕ
label_name l = take (length l.text - 1) l.text

abbrev pub name_at : List LineView → ℕ → List ℕ
name_at lines address = option_map_or label_name (find (is_label_at address) lines)
    (label_text address)

-- A number behind a sign, if it is not 0.
abbrev pub signed : ℕ → ℕ → List ℕ
signed sign number = if number == 0 then [] else sign ∷ decimal number

-- An address by the label of its line.
abbrev pub place_of : List LineView → ℕ → LineView → List ℕ
place_of lines address l = name_at lines l.address ++ signed 43 (address - l.address)

-- ---- lines

abbrev pub half_front : Bool → List ℕ
half_front true = codes ".BYTE >"
half_front false = codes ".BYTE <"

abbrev pub number_line : List (Option ℕ) → ℕ → List ℕ
number_line image address = codes ".BYTE " ++ (byte_text (unwrap_or (cell_at image address) 0)
    ++ codes "\n")

-- The half of an address, or its number where no line has the address.
abbrev pub half_line : List (Option ℕ) → List LineView → ℕ → Entry → Option LineView → List ℕ
half_line image lines address e None = number_line image address
half_line image lines address e (Some l) = half_front e.is_high
    ++ (place_of lines e.target l ++ (signed 45 e.more ++ codes "\n"))

abbrev pub byte_line : List (Option ℕ) → List LineView → ℕ → Option Entry → List ℕ
byte_line image lines address None = number_line image address
byte_line image lines address (Some e)
    = half_line image lines address e (find (covers e.target) lines)

-- A line for each of so many bytes from an address on.
unfoldable pub byte_lines : List (Option ℕ) → List Split → List LineView → ℕ → ℕ → List ℕ
byte_lines image splits lines zero address = []
byte_lines image splits lines (suc n) address =
    byte_line image lines address (entry_at image splits address)
    ++ byte_lines image splits lines n (address + 1)

-- One of so many addresses from one on is in a table.
unfoldable pub has_entry : List (Option ℕ) → List Split → ℕ → ℕ → Bool
has_entry image splits zero address = false
has_entry image splits (suc n) address = is_some (entry_at image splits address)
    || has_entry image splits n (address + 1)

-- A line of numbers, of which some are in a table.
abbrev pub is_table : List (Option ℕ) → List Split → LineView → Bool
is_table image splits l = starts_with (λ a b. a == b) l.text (codes ".BYTE $")
    && has_entry image splits l.count l.address

-- A label stands right before a line.
abbrev pub is_labelled : Option LineView → LineView → Bool
is_labelled None l = false
is_labelled (Some before) l = is_label_at l.address before

-- A line needs a label: a word leads to it, and it has none.
abbrev pub needs_label : List (Option ℕ) → List Split → Option LineView → LineView → Bool
needs_label image splits before l = nat_lt l.address 65536
    && leads image splits l.address (l.address + l.count) && not (is_labelled before l)

abbrev pub made_label : List (Option ℕ) → List Split → Option LineView → LineView → List ℕ
made_label image splits before l = if needs_label image splits before l
    then label_text l.address ++ codes ":\n" else []

-- A line with its label, or the lines of its bytes.
abbrev pub line_text : List (Option ℕ) → List Split → List LineView → LineView → List ℕ
line_text image splits lines l = if is_table image splits l
    then byte_lines image splits lines l.count l.address else l.text ++ codes "\n"

abbrev pub split_row : List (Option ℕ) → List Split → List LineView → Option LineView
    → LineView → List ℕ
split_row image splits lines before l
    = made_label image splits before l ++ line_text image splits lines l

-- All lines, and behind one.
unfoldable pub split_from : List (Option ℕ) → List Split → List LineView → Option LineView
    → List LineView → List ℕ
split_from image splits lines before [] = []
split_from image splits lines before (l ∷ ls) = split_row image splits lines before l
    ++ split_from image splits lines (Some l) ls
