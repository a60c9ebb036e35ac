-- How a page holds the state that a run starts from. Source: mos65.
--
-- The 256 pages of memory: for each a byte 0 if all its bytes are 0, and otherwise a byte 1 and its
-- 256 bytes. A, X, Y, S, P, the low and the high byte of PC. The cycles, in eight bytes. The signals,
-- of which the control byte, the IRQ line and the pending NMI count. How many bytes of input were
-- taken, in eight bytes. What was put out, and what was handed in: how many bytes, in eight bytes,
-- and these bytes.
use Rattle.std.specs.Prelude.{ℕ, zero, suc, ◌+◌, ◌*◌, ◌/◌, ◌%◌, ◌==◌, Bool, false, if◌then◌else◌, List, [], ◌∷◌, ◌++◌, length, take, drop, replicate, slice_index}
use Rattle.std.specs.Int.{w64, to_le_bytes, from_le_bytes}
use Rattle.std.specs.List.{list_all}
use Rattle.model.specs.Effect.{flags_of_byte, status}
use Rattle.model.specs.State.{Map, State}
use Rattle.page_data.specs.Format.{has_bit, signals_by}

-- ---- writing

unfoldable pub is_blank : List ℕ → Bool
is_blank cells = list_all (λ b. b == 0) cells

unfoldable pub page : List ℕ → List ℕ
page cells = if is_blank cells then 0 ∷ [] else 1 ∷ cells

unfoldable pub pages : ℕ → List ℕ → List ℕ
pages zero memory = []
pages (suc n) memory = page (take 256 memory) ++ pages n (drop 256 memory)

abbrev pub number : ℕ → List ℕ
number n = to_le_bytes w64 n

abbrev pub listed : List ℕ → List ℕ
listed bytes = number (length bytes) ++ bytes

unfoldable pub registers_of : State → List ℕ
registers_of s = s.regs.a ∷ s.regs.x ∷ s.regs.y ∷ s.regs.s ∷ status false s.regs.flags
    ∷ (s.regs.pc % 256) ∷ (s.regs.pc / 256) ∷ []

abbrev pub lines_of : State → ℕ
lines_of s = signals_by false false s.bus.control s.irq s.nmi false false

unfoldable pub start_bytes : State → List ℕ
start_bytes s = pages 256 s.bus.memory ++ (registers_of s ++ (number s.cycles ++ (lines_of s
    ∷ (number s.bus.taken ++ (listed s.bus.out ++ listed s.bus.given)))))

-- ---- reading

unfoldable pub memory_at : ℕ → List ℕ → List ℕ × List ℕ
memory_at zero bytes = ([], bytes)
memory_at (suc n) bytes =
    if slice_index bytes 0 == 0 then
    (let rest = memory_at n (drop 1 bytes) in (replicate 256 0 ++ rest.0, rest.1))
    else
    (let rest = memory_at n (drop 256 (drop 1 bytes)) in (take 256 (drop 1 bytes) ++ rest.0, rest.1))

abbrev pub number_at : List ℕ → ℕ × List ℕ
number_at bytes = (from_le_bytes w64 (take 8 bytes), drop 8 bytes)

abbrev pub listed_at : List ℕ → List ℕ × List ℕ
listed_at bytes =
    let count = number_at bytes in (take count.0 count.1, drop count.0 count.1)

unfoldable pub start_at : Map → List ℕ → State × List ℕ
start_at map bytes =
    let memory = memory_at 256 bytes in
    let regs = memory.1 in
    let cycles = number_at (drop 7 regs) in
    let lines = slice_index cycles.1 0 in
    let taken = number_at (drop 1 cycles.1) in
    let out = listed_at taken.1 in
    let given = listed_at out.1 in (
      record {
        bus = record {
          map = map;
          memory = memory.0;
          given = given.0;
          taken = taken.0;
          out = out.0;
          control = has_bit 4 lines;
        };
        regs = record {
          a = slice_index regs 0;
          x = slice_index regs 1;
          y = slice_index regs 2;
          s = slice_index regs 3;
          pc = slice_index regs 5 + 256 * slice_index regs 6;
          flags = flags_of_byte (slice_index regs 4);
        };
        irq = has_bit 8 lines;
        nmi = has_bit 16 lines;
        cycles = cycles.0;
      },
      given.1,
    )
