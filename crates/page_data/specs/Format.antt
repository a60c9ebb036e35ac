-- What a page holds of the steps of a run, as bytes. Each step is a record of what it changed, and
-- the records stand one after another. Source: mos65.
--
-- A record is:
--   a byte: bits 0-3 the cycles, bits 4-5 how many addresses were read, bits 6-7 stored at;
--   a byte of marks: bit k says that the k-th of eight bytes is not 0, and stands in the record;
--   those of the eight bytes: A, X, Y, S, P, the low and the high byte of PC, each as old XOR new,
--   and the signals;
--   for each address that was read, two bytes, the low byte first;
--   for each address that was stored at, the same, and old XOR new of the byte of memory there;
--   the byte that was put out, if one was;
--   how many bytes of input were handed in, in eight bytes, and these bytes, if any were.
--
-- The signals are: bit 0 a byte was put out, bit 1 a byte of input was taken, bit 2 the control byte
-- flipped, bit 3 the IRQ line, bit 4 the pending NMI, bit 5 input was handed in before the step,
-- bit 6 the step was an interrupt entry.
use Rattle.std.specs.Prelude.{ℕ, zero, suc, ◌+◌, ◌*◌, ◌/◌, ◌%◌, ◌^◌, ◌<◌, ◌≤◌, ◌==◌, Bool, true, false, not, if◌then◌else◌, List, [], ◌∷◌, ◌++◌, length, take, drop, slice_index, Option, Some, None, is_some}
use Rattle.std.specs.Int.{w64, to_le_bytes, from_le_bytes}
use Rattle.std.specs.List.{flat_map}
use Rattle.std.specs.Option.{option_to_list}
use Rattle.model.specs.Arithmetic.{bit}

-- What a step changed. A, X, Y, S, P and PC are old XOR new, and so is the byte with the address of
-- each store. The flags tell which of the three flipped.
pub record Change : Type 0 where
  pub cycles : ℕ
  pub a : ℕ
  pub x : ℕ
  pub y : ℕ
  pub s : ℕ
  pub p : ℕ
  pub pc : ℕ
  pub reads : List ℕ
  pub stores : List (ℕ × ℕ)
  pub out : Option ℕ
  pub takes : Bool
  pub control : Bool
  pub irq : Bool
  pub nmi : Bool
  pub given : List ℕ
  pub entry : Bool

-- What a record can hold: fewer than 16 cycles, at most three reads and three stores.
pub record IsSmall (c : Change) : Type 0 where
  pub cycles : c.cycles < 16
  pub reads : length c.reads ≤ 3
  pub stores : length c.stores ≤ 3
  pub given : length c.given < 2 ^ 64

-- ---- writing

abbrev pub is_any : List ℕ → Bool
is_any [] = false
is_any (b ∷ bytes) = true

-- Of a byte that was put out, one that was taken, the control byte, the IRQ line, the pending NMI,
-- input that was handed in, and an interrupt entry.
unfoldable pub signals_by : Bool → Bool → Bool → Bool → Bool → Bool → Bool → ℕ
signals_by out takes control irq nmi given entry = bit out + 2 * bit takes + 4 * bit control
    + 8 * bit irq + 16 * bit nmi + 32 * bit given + 64 * bit entry

abbrev pub signals : Change → ℕ
signals c = signals_by (is_some c.out) c.takes c.control c.irq c.nmi (is_any c.given) c.entry

-- The eight bytes, of which those that are 0 are left out.
abbrev pub eight : Change → List ℕ
eight c = c.a ∷ c.x ∷ c.y ∷ c.s ∷ c.p ∷ (c.pc % 256) ∷ (c.pc / 256) ∷ signals c ∷ []

-- Which bytes are not 0, the first in bit 0.
unfoldable pub marks : List ℕ → ℕ
marks [] = 0
marks (b ∷ bytes) = bit (not (b == 0)) + 2 * marks bytes

unfoldable pub without_zeros : List ℕ → List ℕ
without_zeros [] = []
without_zeros (b ∷ bytes) = if b == 0 then without_zeros bytes else b ∷ without_zeros bytes

abbrev pub word : ℕ → List ℕ
word address = (address % 256) ∷ (address / 256) ∷ []

abbrev pub cell : ℕ × ℕ → List ℕ
cell store = (store.0 % 256) ∷ (store.0 / 256) ∷ store.1 ∷ []

abbrev pub counted : List ℕ → List ℕ
counted [] = []
counted (b ∷ bytes) = to_le_bytes w64 (length (b ∷ bytes)) ++ b ∷ bytes

abbrev pub head : Change → ℕ
head c = c.cycles % 16 + 16 * length c.reads + 64 * length c.stores

unfoldable pub bytes_of : Change → List ℕ
bytes_of c = head c ∷ marks (eight c) ∷ (without_zeros (eight c) ++ (flat_map word c.reads
    ++ (flat_map cell c.stores ++ (option_to_list c.out ++ counted c.given))))

-- ---- reading: what is read, and the bytes after it

-- An element before those that are read after it.
abbrev pub before_rest : {T : Type 0} → T → List T × List ℕ → List T × List ℕ
before_rest first rest = (first ∷ rest.0, rest.1)

unfoldable pub bytes_at : ℕ → ℕ → List ℕ → List ℕ × List ℕ
bytes_at zero marked bytes = ([], bytes)
bytes_at (suc n) marked bytes =
    if marked % 2 == 0 then before_rest 0 (bytes_at n (marked / 2) bytes)
    else before_rest (slice_index bytes 0) (bytes_at n (marked / 2) (drop 1 bytes))

abbrev pub word_at : List ℕ → ℕ
word_at bytes = slice_index bytes 0 + 256 * slice_index bytes 1

unfoldable pub words_at : ℕ → List ℕ → List ℕ × List ℕ
words_at zero bytes = ([], bytes)
words_at (suc n) bytes = before_rest (word_at bytes) (words_at n (drop 2 bytes))

unfoldable pub cells_at : ℕ → List ℕ → List (ℕ × ℕ) × List ℕ
cells_at zero bytes = ([], bytes)
cells_at (suc n) bytes = before_rest (word_at bytes, slice_index bytes 2) (cells_at n (drop 3 bytes))

abbrev pub out_at : Bool → List ℕ → Option ℕ × List ℕ
out_at true bytes = (Some (slice_index bytes 0), drop 1 bytes)
out_at false bytes = (None, bytes)

abbrev pub given_at : Bool → List ℕ → List ℕ × List ℕ
given_at true bytes =
    let count = from_le_bytes w64 (take 8 bytes) in
    (take count (drop 8 bytes), drop count (drop 8 bytes))
given_at false bytes = ([], bytes)

-- Whether a bit is 1, by the weight of the bit.
abbrev pub has_bit : ℕ → ℕ → Bool
has_bit weight byte = byte / weight % 2 == 1

unfoldable pub change_at : List ℕ → Change × List ℕ
change_at bytes =
    let first = slice_index bytes 0 in
    let eight = bytes_at 8 (slice_index bytes 1) (drop 2 bytes) in
    let reads = words_at (first / 16 % 4) eight.1 in
    let stores = cells_at (first / 64) reads.1 in
    let signals = slice_index eight.0 7 in
    let out = out_at (has_bit 1 signals) stores.1 in
    let given = given_at (has_bit 32 signals) out.1 in (
      record {
        cycles = first % 16;
        a = slice_index eight.0 0;
        x = slice_index eight.0 1;
        y = slice_index eight.0 2;
        s = slice_index eight.0 3;
        p = slice_index eight.0 4;
        pc = slice_index eight.0 5 + 256 * slice_index eight.0 6;
        reads = reads.0;
        stores = stores.0;
        out = out.0;
        takes = has_bit 2 signals;
        control = has_bit 4 signals;
        irq = has_bit 8 signals;
        nmi = has_bit 16 signals;
        given = given.0;
        entry = has_bit 64 signals;
      },
      given.1,
    )

-- The records of some bytes, one after another. A record has two bytes at least, so there are no
-- more records than bytes.
unfoldable pub changes_by : ℕ → List ℕ → List Change
changes_by zero bytes = []
changes_by (suc n) [] = []
changes_by (suc n) (b ∷ bytes) =
    let next = change_at (b ∷ bytes) in next.0 ∷ changes_by n next.1

abbrev pub changes_in : List ℕ → List Change
changes_in bytes = changes_by (length bytes) bytes
