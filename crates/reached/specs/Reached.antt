-- What control can reach in an image by branches, jumps and calls. Source: MCS6500 manual, chapters
-- 4 and 8; mos65 for where the search ends, and for what stands behind calls.
use Rattle.std.specs.Prelude.{◌≡◌, ℕ, zero, suc, ◌+◌, ◌-◌, ◌*◌, ◌%◌, ◌<◌, ◌⊎◌, ◌==◌, Bool, true, false, not, ◌||◌, ◌&&◌, nat_lt, nat_le, if◌then◌else◌, List, [], ◌∷◌, ◌++◌, length, Option, Some, None, option_map, slice_index, slice_set}
use Rattle.source_forms.specs.Labels.{no_flags}
use Rattle.source_forms.specs.Pieces.{is_flagged}
use Rattle.model.specs.declared.instruction.Profile.{Profile}
use Rattle.model.specs.declared.instruction.Mnemonic.{Mnemonic}
use Rattle.model.specs.declared.instruction.Mnemonic.TheVariants.{Jmp, Jsr, Bra, Brk, Rti, Rts}
use Rattle.model.specs.declared.instruction.Mode.{Mode}
use Rattle.model.specs.declared.instruction.Mode.TheVariants.{Imp, Acc, Imm, Zp, ZpX, ZpY, Abs, AbsX, AbsY, IndX, IndY, Ind, Rel, IndZ}
use Rattle.model.specs.declared.instruction.Row.{Row}
use Rattle.model.specs.OpcodeTable.{row_at}
use Rattle.model.specs.InstructionText.{target_of}
use Rattle.model.specs.Image.{cell_at}
use Rattle.source_forms.specs.declared.mark.Mark.{Mark}
use Rattle.source_forms.specs.declared.mark.Mark.TheVariants.{Code, Data, Text, Address, Return}
use Rattle.source_forms.specs.declared.undocumented.Undocumented.{Undocumented}
use Rattle.source_forms.specs.Undocumented.{undocumented_at}
use Rattle.source_forms.specs.Rows.{by_cell, mark_at, stretch}
use Rattle.reached.specs.declared.inline.Inline.{Inline}
use Rattle.reached.specs.declared.inline.Tail.{Tail}
use Rattle.reached.specs.declared.inline.Tail.TheVariants.{String, Counted, HighBit, Bytes}
use Rattle.reached.specs.declared.ways.Ways.{Ways}

-- ---- where control goes from an instruction

-- Whether control can come to the instruction after one. A call comes back. After BRK, RTI and RTS
-- nothing is known.
abbrev pub comes_after : Mnemonic → Bool
comes_after Jmp = false
comes_after Bra = false
comes_after Brk = false
comes_after Rti = false
comes_after Rts = false
comes_after m = true

abbrev pub jumps : Mnemonic → Bool
jumps Jmp = true
jumps Jsr = true
jumps m = false

-- The address that a jump, a call or a branch at an address names, by its second byte and its
-- third. An indirect jump names none, since its pointer can change.
abbrev pub target_by : Mnemonic → Mode → ℕ → ℕ → ℕ → Option ℕ
target_by m Imp address b c = None
target_by m Acc address b c = None
target_by m Imm address b c = None
target_by m Zp address b c = None
target_by m ZpX address b c = None
target_by m ZpY address b c = None
target_by m Abs address b c = if jumps m then Some (b + 256 * c) else None
target_by m AbsX address b c = None
target_by m AbsY address b c = None
target_by m IndX address b c = None
target_by m IndY address b c = None
target_by m Ind address b c = None
target_by m Rel address b c = Some (target_of address b)
target_by m IndZ address b c = None

-- ---- what stands behind a call

-- The address behind the first 0 from an address on, by at most so many steps, if no byte before it
-- is missing.
unfoldable pub behind_zero : List (Option ℕ) → ℕ → ℕ → Option ℕ
behind_zero image zero address = None
behind_zero image (suc n) address = by_cell (cell_at image address) None
    (λ b. if b == 0 then Some ((address + 1) % 65536) else behind_zero image n (address + 1))

-- The address behind the first byte with bit 7, in the same way.
unfoldable pub behind_high : List (Option ℕ) → ℕ → ℕ → Option ℕ
behind_high image zero address = None
behind_high image (suc n) address = by_cell (cell_at image address) None
    (λ b. if nat_le 128 b then Some ((address + 1) % 65536) else behind_high image n (address + 1))

-- The address behind a string at an address, where its length stands.
abbrev pub behind_counted : ℕ → Option ℕ → Option ℕ
behind_counted address None = None
behind_counted address (Some count) = Some ((address + 1 + count) % 65536)

-- The address behind what stands at an address: a string that ends in 0, one that begins with its
-- length, one whose last byte has bit 7, or so many bytes.
abbrev pub behind : List (Option ℕ) → Tail → ℕ → Option ℕ
behind image String address = behind_zero image 65536 address
behind image Counted address = behind_counted address (cell_at image address)
behind image HighBit address = behind_high image 65536 address
behind image (Bytes n) address = Some ((address + n) % 65536)

-- What follows the calls of an address, if something does: by the first of some routines that is
-- there.
abbrev pub tail_at : List Inline → ℕ → Option Tail
tail_at [] address = None
tail_at (routine ∷ routines) address = if routine.address == address then Some routine.tail
    else tail_at routines address

abbrev pub called_tail : Mnemonic → List Inline → ℕ → Option Tail
called_tail Jsr routines address = tail_at routines address
called_tail m routines address = None

-- Where control goes on behind an instruction that ends before an address.
abbrev pub goes_on : List (Option ℕ) → Option Tail → ℕ → Option ℕ
goes_on image None address = Some address
goes_on image (Some tail) address = behind image tail address

-- ---- the ways from an instruction

-- The ways from an instruction at an address.
abbrev pub ways_from : List (Option ℕ) → List Inline → ℕ → Row → ℕ → ℕ → Ways
ways_from image routines address row b c = record {
  target = target_by row.mnemonic row.mode address b c;
  next = if comes_after row.mnemonic
      then goes_on image (called_tail row.mnemonic routines (b + 256 * c))
      ((address + row.len) % 65536) else None;
}

abbrev pub no_way : Ways
no_way = record { target = None; next = None }

-- Whether so many bytes are among those that are there, and none of them is past $FFFF.
abbrev pub fits : ℕ → ℕ → ℕ → Bool
fits address len count = nat_le len count && nat_le (address + len) 65536

-- Control comes from an undocumented instruction to the next one, where the processor does not stop.
abbrev pub odd_ways : ℕ → List ℕ → Option Undocumented → Ways
odd_ways address bytes None = no_way
odd_ways address bytes (Some u) = if fits address u.len (length bytes) && not u.stops
    then record { target = None; next = Some ((address + u.len) % 65536) } else no_way

abbrev pub ways_by : Profile → List (Option ℕ) → List Inline → ℕ → List ℕ → Option Row → Ways
ways_by profile image routines address bytes None
    = odd_ways address bytes (undocumented_at profile (slice_index bytes 0))
ways_by profile image routines address bytes (Some row) = if fits address row.len (length bytes)
    then ways_from image routines address row (slice_index bytes 1) (slice_index bytes 2)
    else no_way

-- The ways from an address: there are some where an instruction is whose bytes are all there and
-- marked as code.
unfoldable pub ways_at : Profile → List (Option ℕ) → List Mark → List Inline → ℕ → Ways
ways_at profile image marks routines address =
    let bytes = stretch image marks Code 3 address in
    ways_by profile image routines address bytes (row_at profile (slice_index bytes 0))

abbrev pub LeadTo : Ways → ℕ → Type 0
LeadTo ways address = (ways.target ≡ Some address) ⊎ (ways.next ≡ Some address)

-- ---- what is reached

abbrev pub IsAmong : List ℕ → ℕ → Type 0
IsAmong addresses address
    = (i : ℕ) × (i < length addresses) × (slice_index addresses i ≡ address)

-- Control comes from one of the starts to an address by so many instructions.
unfoldable pub Reaches : Profile → List (Option ℕ) → List Mark → List Inline → List ℕ → ℕ → ℕ
    → Type 0
Reaches profile image marks routines starts zero address = IsAmong starts address
Reaches profile image marks routines starts (suc n) address = (before : ℕ)
    × Reaches profile image marks routines starts n before
    × LeadTo (ways_at profile image marks routines before) address

-- The flags say exactly which addresses control reaches from the starts.
pub record IsReached (profile : Profile) (image : List (Option ℕ)) (marks : List Mark)
    (routines : List Inline) (starts : List ℕ) (reached : List Bool) : Type 0 where
  pub size : length reached ≡ 65536
  pub only : (a : ℕ) → is_flagged reached a ≡ true
      → (n : ℕ) × Reaches profile image marks routines starts n a
  pub all : (n a : ℕ) → Reaches profile image marks routines starts n a → is_flagged reached a ≡ true

-- ---- where control comes in

abbrev pub word_of : Option ℕ → Option ℕ → List ℕ
word_of None high = []
word_of (Some low) None = []
word_of (Some low) (Some high) = (low + 256 * high) ∷ []

-- The words of the vectors whose bytes are both there: NMI, reset, IRQ. Source: MCS6500 manual,
-- chapter 9.
abbrev pub vectors : List (Option ℕ) → List ℕ
vectors image = word_of (cell_at image 65530) (cell_at image 65531)
    ++ (word_of (cell_at image 65532) (cell_at image 65533)
    ++ word_of (cell_at image 65534) (cell_at image 65535))

-- ---- strings behind calls

-- Where a string begins that stands behind a call, and where control goes on behind it: some bytes
-- are no string.
abbrev pub string_of : ℕ → Option Tail → Option ℕ → Option (ℕ × ℕ)
string_of begin None next = None
string_of begin (Some (Bytes n)) next = None
string_of begin (Some String) next = option_map (λ end. (begin, end)) next
string_of begin (Some Counted) next = option_map (λ end. (begin, end)) next
string_of begin (Some HighBit) next = option_map (λ end. (begin, end)) next

abbrev pub string_behind : List (Option ℕ) → ℕ → Option Tail → Option (ℕ × ℕ)
string_behind image begin tail = string_of begin tail (goes_on image tail begin)

abbrev pub string_by : List (Option ℕ) → List Inline → ℕ → List ℕ → Option Row
    → Option (ℕ × ℕ)
string_by image routines address bytes None = None
string_by image routines address bytes (Some row) = if fits address row.len (length bytes)
    then string_behind image ((address + row.len) % 65536)
    (called_tail row.mnemonic routines (slice_index bytes 1 + 256 * slice_index bytes 2)) else None

-- The string behind the instruction at an address, if that is a call with one.
unfoldable pub string_at : Profile → List (Option ℕ) → List Mark → List Inline → ℕ
    → Option (ℕ × ℕ)
string_at profile image marks routines address =
    let bytes = stretch image marks Code 3 address in
    string_by image routines address bytes (row_at profile (slice_index bytes 0))

-- Flags of addresses, with so many more from one on.
unfoldable pub with_run : List Bool → ℕ → ℕ → List Bool
with_run letters zero address = letters
with_run letters (suc n) address = with_run (slice_set letters address true) n (address + 1)

abbrev pub with_string : List Bool → Option (ℕ × ℕ) → List Bool
with_string letters None = letters
with_string letters (Some string) = with_run letters (string.1 - string.0) string.0

-- The string behind an address that is reached.
abbrev pub reached_string : Profile → List (Option ℕ) → List Mark → List Inline → List Bool → ℕ
    → Option (ℕ × ℕ)
reached_string profile image marks routines reached address = if is_flagged reached address
    then string_at profile image marks routines address else None

-- Flags of the addresses in strings behind calls that are reached below an address.
unfoldable pub letters_to : Profile → List (Option ℕ) → List Mark → List Inline → List Bool → ℕ
    → List Bool
letters_to profile image marks routines reached zero = no_flags
letters_to profile image marks routines reached (suc n)
    = with_string (letters_to profile image marks routines reached n)
    (reached_string profile image marks routines reached n)

-- ---- marks

abbrev pub odd_len : ℕ → List ℕ → Option Undocumented → ℕ
odd_len address bytes None = 1
odd_len address bytes (Some u) = if fits address u.len (length bytes) then u.len else 1

abbrev pub len_by : Profile → ℕ → List ℕ → Option Row → ℕ
len_by profile address bytes None
    = odd_len address bytes (undocumented_at profile (slice_index bytes 0))
len_by profile address bytes (Some row) = if fits address row.len (length bytes) then row.len
    else 1

-- How many bytes the instruction at an address has, 1 where no instruction is.
unfoldable pub instruction_len : Profile → List (Option ℕ) → List Mark → ℕ → ℕ
instruction_len profile image marks address =
    let bytes = stretch image marks Code 3 address in
    len_by profile address bytes (row_at profile (slice_index bytes 0))

-- Whether an address belongs to an instruction that is reached so many bytes before it.
abbrev pub covers : Profile → List (Option ℕ) → List Mark → List Bool → ℕ → ℕ → Bool
covers profile image marks reached back address =
    nat_le back address && is_flagged reached (address - back)
    && nat_lt back (instruction_len profile image marks (address - back))

-- Whether an address belongs to an instruction that is reached.
abbrev pub is_followed : Profile → List (Option ℕ) → List Mark → List Bool → ℕ → Bool
is_followed profile image marks reached address =
    covers profile image marks reached 0 address || covers profile image marks reached 1 address
    || covers profile image marks reached 2 address

-- What was marked as code stays so where control comes, is text in a string behind a call, and data
-- elsewhere.
abbrev pub followed_mark : Mark → Bool → Bool → Mark
followed_mark Code true letter = Code
followed_mark Code false true = Text
followed_mark Code false false = Data
followed_mark Data followed letter = Data
followed_mark Text followed letter = Text
followed_mark Address followed letter = Address
followed_mark Return followed letter = Return

-- The marks of all addresses after control was followed from the starts.
pub record AreFollowed (profile : Profile) (image : List (Option ℕ)) (marks : List Mark)
    (routines : List Inline) (starts : List ℕ) (followed : List Mark) : Type 0 where
  pub reached : List Bool
  pub exact : IsReached profile image marks routines starts reached
  pub size : length followed ≡ 65536
  pub each : (a : ℕ) → a < 65536 → mark_at followed a
      ≡ followed_mark (mark_at marks a) (is_followed profile image marks reached a)
      (is_flagged (letters_to profile image marks routines reached 65536) a)
