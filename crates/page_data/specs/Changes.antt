-- What a change makes of a state, forwards and back. XOR undoes itself, so one datum serves both.
-- Source: mos65.
use Rattle.std.specs.Prelude.{◌≡◌, ℕ, ◌+◌, ◌-◌, Bool, true, false, not, List, [], ◌∷◌, ◌++◌, length, take, slice_index, slice_set, bit_xor, reverse}
use Rattle.std.specs.List.{AllByRecursion, flat_map}
use Rattle.std.specs.Option.{option_to_list}
use Rattle.model.specs.Arithmetic.{bit}
use Rattle.model.specs.Effect.{flags_of_byte, status}
use Rattle.model.specs.State.{State}
use Rattle.model.specs.declared.registers.Regs.{Regs}
use Rattle.page_data.specs.Format.{Change, IsSmall, bytes_of, changes_in}

-- A truth value, flipped if the first is true. It is XOR as well.
abbrev pub flipped : Bool → Bool → Bool
flipped true b = not b
flipped false b = b

abbrev pub flipped_regs : Change → Regs → Regs
flipped_regs c regs = record {
  a = bit_xor regs.a c.a;
  x = bit_xor regs.x c.x;
  y = bit_xor regs.y c.y;
  s = bit_xor regs.s c.s;
  pc = bit_xor regs.pc c.pc;
  flags = flags_of_byte (bit_xor (status false regs.flags) c.p);
}

unfoldable pub flipped_memory : List ℕ → List (ℕ × ℕ) → List ℕ
flipped_memory memory [] = memory
flipped_memory memory (store ∷ stores) = flipped_memory
    (slice_set memory store.0 (bit_xor (slice_index memory store.0) store.1)) stores

-- A list without its last n elements.
abbrev pub without_last : ℕ → List ℕ → List ℕ
without_last n bytes = take (length bytes - n) bytes

-- The state after a change, from the state before it.
unfoldable pub forth : Change → State → State
forth c s = record {
  bus = record {
    map = s.bus.map;
    memory = flipped_memory s.bus.memory c.stores;
    given = s.bus.given ++ c.given;
    taken = s.bus.taken + bit c.takes;
    out = s.bus.out ++ option_to_list c.out;
    control = flipped c.control s.bus.control;
  };
  regs = flipped_regs c s.regs;
  irq = flipped c.irq s.irq;
  nmi = flipped c.nmi s.nmi;
  cycles = s.cycles + c.cycles;
}

-- The state before a change, from the state after it.
unfoldable pub back : Change → State → State
back c t = record {
  bus = record {
    map = t.bus.map;
    memory = flipped_memory t.bus.memory c.stores;
    given = without_last (length c.given) t.bus.given;
    taken = t.bus.taken - bit c.takes;
    out = without_last (length (option_to_list c.out)) t.bus.out;
    control = flipped c.control t.bus.control;
  };
  regs = flipped_regs c t.regs;
  irq = flipped c.irq t.irq;
  nmi = flipped c.nmi t.nmi;
  cycles = t.cycles - c.cycles;
}

-- A state, and those that changes make of it, one after another.
unfoldable pub states_by : (Change → State → State) → State → List Change → List State
states_by by s [] = s ∷ []
states_by by s (c ∷ changes) = s ∷ states_by by (by c s) changes

-- Some bytes tell of states, up to one of them. They are records, one after another. Decoded, and
-- applied forwards from the start, they give these states; applied backwards from the last, they
-- give the same in reverse.
pub record Tells (start : State) (bytes : List ℕ) (earlier : List State) (now : State) : Type 0
  where
    pub written : bytes ≡ flat_map bytes_of (changes_in bytes)
    pub small : AllByRecursion IsSmall (changes_in bytes)
    pub forwards : states_by forth start (changes_in bytes) ≡ earlier ++ now ∷ []
    pub backwards : states_by back now (reverse (changes_in bytes)) ≡ reverse (earlier ++ now ∷ [])
