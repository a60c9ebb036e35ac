-- The records of the events of a session: of steps, and of what a person does between them.
-- Source: mos65.
--
-- The record of an event that is no step is one as that of a step: it reads nothing, and stores
-- where a patch puts its bytes. It has no cycles, as no step has. A reset alone has 7, and is told
-- as an interrupt entry that stores nothing, as no entry does.
use Rattle.std.specs.Prelude.{◌≡◌, ℕ, ◌+◌, ◌-◌, ◌%◌, nat_lt, Bool, true, false, if◌then◌else◌, List, [], ◌∷◌, ◌++◌, take, None, bit_xor}
use Rattle.model.specs.Transcript.{after_event}
use Rattle.model.specs.Effect.{status}
use Rattle.model.specs.Event.{event_of}
use Rattle.model.specs.Session.{Session}
use Rattle.model.specs.State.{State}
use Rattle.model.specs.declared.event.Event.{Event}
use Rattle.model.specs.declared.event.Event.TheVariants.{Step, Reset, Patch, Input}
use Rattle.page_data.specs.Changes.{Tells, flipped}
use Rattle.page_data.specs.Format.{Change}
use Rattle.page_data.specs.Start.{start_at, start_bytes}
use Rattle.page_data.specs.Steps.{cells_after, cells_between, cells_of}
use Rattle.page_data.specs.declared.event.Before.{Before}

-- ---- the change of an event that is no step

abbrev pub is_step : Event → Bool
is_step Step = true
is_step event = false

abbrev pub is_reset : Event → Bool
is_reset Reset = true
is_reset event = false

-- Where a patch puts its bytes.
abbrev pub patched_from : ℕ → ℕ → List ℕ
patched_from address count = if nat_lt 3 count then []
    else take count (address ∷ (address + 1) % 65536 ∷ (address + 2) % 65536 ∷ [])

abbrev pub patched_by : Event → List ℕ
patched_by (Patch address bytes count) = patched_from address count
patched_by event = []

-- The input that is handed in.
abbrev pub handed_by : Event → List ℕ
handed_by (Input byte) = byte ∷ []
handed_by event = []

unfoldable pub event_change : Event → State → State → Change
event_change event s t = record {
  cycles = t.cycles - s.cycles;
  a = bit_xor s.regs.a t.regs.a;
  x = bit_xor s.regs.x t.regs.x;
  y = bit_xor s.regs.y t.regs.y;
  s = bit_xor s.regs.s t.regs.s;
  p = bit_xor (status false s.regs.flags) (status false t.regs.flags);
  pc = bit_xor s.regs.pc t.regs.pc;
  reads = [];
  stores = cells_between s.bus.memory t.bus.memory (patched_by event);
  out = None;
  takes = false;
  control = flipped s.bus.control t.bus.control;
  irq = flipped s.irq t.irq;
  nmi = flipped s.nmi t.nmi;
  given = handed_by event;
  entry = is_reset event;
}

-- What is known of a state before an event.
pub record IsBefore (before : Before) (event : Event) (s : State) : Type 0 where
  pub regs : before.regs ≡ s.regs
  pub cycles : before.cycles ≡ s.cycles
  pub control : before.control ≡ s.bus.control
  pub irq : before.irq ≡ s.irq
  pub nmi : before.nmi ≡ s.nmi
  pub cells : before.cells.items ≡ cells_of s.bus.memory (patched_by event)

-- The same change from what was known before it.
unfoldable pub change_told : Event → Before → State → Change
change_told event before t = record {
  cycles = t.cycles - before.cycles;
  a = bit_xor before.regs.a t.regs.a;
  x = bit_xor before.regs.x t.regs.x;
  y = bit_xor before.regs.y t.regs.y;
  s = bit_xor before.regs.s t.regs.s;
  p = bit_xor (status false before.regs.flags) (status false t.regs.flags);
  pc = bit_xor before.regs.pc t.regs.pc;
  reads = [];
  stores = cells_after t.bus.memory before.cells.items;
  out = None;
  takes = false;
  control = flipped before.control t.bus.control;
  irq = flipped before.irq t.irq;
  nmi = flipped before.nmi t.nmi;
  given = handed_by event;
  entry = is_reset event;
}

-- ---- a session

abbrev pub led_by : Event → Session → Session
led_by event s = after_event s (event_of s.current event)

-- Some bytes are the data of a session from a state on: read, they give this state, and then the
-- records that tell of all states that the session holds.
pub record HoldsSession (start : State) (bytes : List ℕ) (s : Session) : Type 0 where
  pub records : List ℕ
  pub whole : bytes ≡ start_bytes start ++ records
  pub read : start_at start.bus.map bytes ≡ (start, records)
  pub told : Tells start records s.earlier s.current
