-- The change that a step makes, with what it read and stored. Source: mos65.
use Rattle.std.specs.Prelude.{◌≡◌, ℕ, ◌-◌, Bool, true, false, List, [], ◌∷◌, ◌++◌, length, map, nat_lt, slice_get, slice_index, bit_xor}
use Rattle.model.specs.Effect.{status}
use Rattle.model.specs.State.{State}
use Rattle.accesses.specs.Footprint.{reads_here, stores_here}
use Rattle.accesses.specs.Moments.{entered, entry_stores, moment_of, step_stores}
use Rattle.page_data.specs.Format.{Change}
use Rattle.page_data.specs.Changes.{flipped}
use Rattle.page_data.specs.declared.ahead.Ahead.{Ahead}

-- An interrupt entry reads its vector, and any other step what its instruction reads.
abbrev pub vector_reads : Bool → List ℕ
vector_reads true = 0xFFFA ∷ 0xFFFB ∷ []
vector_reads false = 0xFFFE ∷ 0xFFFF ∷ []

abbrev pub read_by : Bool → Bool → List ℕ → List ℕ
read_by true nmi reads = vector_reads nmi
read_by false nmi reads = reads

abbrev pub step_reads : State → State → List ℕ
step_reads before after
    = read_by (entered (moment_of before) after) before.nmi (reads_here before)

-- Some addresses, with a byte XOR the byte of another memory there.
abbrev pub cells_between : List ℕ → List ℕ → List ℕ → List (ℕ × ℕ)
cells_between before after addresses
    = map (λ a. (a, bit_xor (slice_index before a) (slice_index after a))) addresses

-- A state with more bytes of input handed in.
abbrev pub with_input : List ℕ → State → State
with_input bytes s = record s { bus = record s.bus { given = s.bus.given ++ bytes } }

-- The change between a state, to which some input is handed in, and the state after its next step.
-- A step leaves the IRQ line as it is, and no NMI is pending after it.
unfoldable pub change_of : List ℕ → State → State → Change
change_of given s t = record {
  cycles = t.cycles - s.cycles;
  a = bit_xor s.regs.a t.regs.a;
  x = bit_xor s.regs.x t.regs.x;
  y = bit_xor s.regs.y t.regs.y;
  s = bit_xor s.regs.s t.regs.s;
  p = bit_xor (status false s.regs.flags) (status false t.regs.flags);
  pc = bit_xor s.regs.pc t.regs.pc;
  reads = step_reads s t;
  stores = cells_between s.bus.memory t.bus.memory (step_stores s t);
  out = slice_get t.bus.out (length s.bus.out);
  takes = nat_lt s.bus.taken t.bus.taken;
  control = flipped s.bus.control t.bus.control;
  irq = false;
  nmi = s.nmi;
  given = given;
  entry = entered (moment_of s) t;
}

-- Some addresses, with the bytes of a memory there.
abbrev pub cells_of : List ℕ → List ℕ → List (ℕ × ℕ)
cells_of memory addresses = map (λ a. (a, slice_index memory a)) addresses

-- What is known of a state before its next step.
pub record IsAhead (ahead : Ahead) (s : State) : Type 0 where
  pub moment : ahead.moment ≡ moment_of s
  pub shown : ahead.shown ≡ length s.bus.out
  pub reads : ahead.reads.items ≡ reads_here s
  pub stores : ahead.stores.items ≡ cells_of s.bus.memory (stores_here s)
  pub pushes : ahead.pushes.items ≡ cells_of s.bus.memory (entry_stores s.regs.s)

-- ---- the same from what was known before the step

abbrev pub stored_cells : Bool → List (ℕ × ℕ) → List (ℕ × ℕ) → List (ℕ × ℕ)
stored_cells true pushes stores = pushes
stored_cells false pushes stores = stores

-- Addresses with their old bytes, XOR their bytes in a memory.
abbrev pub cells_after : List ℕ → List (ℕ × ℕ) → List (ℕ × ℕ)
cells_after memory cells = map (λ c. (c.0, bit_xor c.1 (slice_index memory c.0))) cells

unfoldable pub change_by : Bool → List ℕ → Ahead → State → Change
change_by entry given ahead t = record {
  cycles = t.cycles - ahead.moment.cycles;
  a = bit_xor ahead.moment.regs.a t.regs.a;
  x = bit_xor ahead.moment.regs.x t.regs.x;
  y = bit_xor ahead.moment.regs.y t.regs.y;
  s = bit_xor ahead.moment.regs.s t.regs.s;
  p = bit_xor (status false ahead.moment.regs.flags) (status false t.regs.flags);
  pc = bit_xor ahead.moment.regs.pc t.regs.pc;
  reads = read_by entry ahead.moment.nmi ahead.reads.items;
  stores = cells_after t.bus.memory (stored_cells entry ahead.pushes.items ahead.stores.items);
  out = slice_get t.bus.out ahead.shown;
  takes = nat_lt ahead.moment.taken t.bus.taken;
  control = flipped ahead.moment.control t.bus.control;
  irq = false;
  nmi = ahead.moment.nmi;
  given = given;
  entry = entry;
}

abbrev pub change_from : List ℕ → Ahead → State → Change
change_from given ahead t = change_by (entered ahead.moment t) given ahead t
