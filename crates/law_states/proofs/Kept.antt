-- A start is a state, and each event keeps it one.
use Rattle.std.proofs.Common.{◌≡◌, ℕ, ◌<◌, ◌≤◌, Bool, true, false, cond, List, [], ◌∷◌, ◌++◌, length, take, map, get_or, Option, Some, None, unwrap_or, Ok, Err, refl, ◌∙◌, arith, true≢false}
use Rattle.std.specs.Prelude.{slice_index, is_some, nat_lt, nat_le}
use Rattle.std.specs.List.{All}
use Rattle.std.proofs.Math.ListN.{get_or-map}
use Rattle.std.proofs.lemmas.List.{length-map}
use Rattle.std.proofs.lemmas.List.Elements.{All-nil, All-map, All-weaker, All-take}
use Rattle.std.proofs.lemmas.Bool.Decides.{nat_tests}
use Rattle.model.specs.State.{Map, Bus, State, console_size, is_map, is_port, memory_of, loaded_bus, has_port_byte, AreBytes, IsBus, AreRegs, IsState}
use Rattle.model.specs.Image.{IsImage, IsCell, has_byte}
use Rattle.model.specs.Step.{most_cycles}
use Rattle.model.specs.Event.{set_to, meets_port, bus_with_patch, patch_of, no_regs, reset_state, reset_of, input_of, event_of, start}
use Rattle.model.specs.Effect.{flags_of_byte}
use Rattle.model.specs.declared.registers.Regs.{Regs}
use Rattle.model.specs.declared.event.Setting.{Setting}
use Rattle.model.specs.declared.event.Setting.TheVariants as setting
use Rattle.model.specs.declared.event.Event.{Event}
use Rattle.model.specs.declared.event.Event.TheVariants as event
use Rattle.model.specs.declared.event.EventFault.TheVariants.{CyclesFull, PastEnd, PortAddress, BadLength, InputFull}
use Rattle.law_states.specs.Law.{IsSetting, IsEvent, StartsAreStates, EventsKeepStates}
use Rattle.law_states.proofs.Numbers.{word_small, with_flags}
use Rattle.law_states.proofs.Buses.{Becomes, becomes_controlled, becomes_given, becomes_patched}
use Rattle.law_states.proofs.Steps.{Follows, step_follows}

abbrev IsByte : ℕ → Type 0
IsByte b = b < 256

-- ---- the start

cell_small : (cell : Option ℕ) → IsCell cell → unwrap_or cell 0 < 256
cell_small None h = omega arith
cell_small (Some b) h = h

cells_small : (image : List (Option ℕ)) → All IsCell image
    → AreBytes (map (λ cell. unwrap_or cell 0) image)
cells_small image h = All-map IsByte (λ cell. unwrap_or cell 0) image (All-weaker IsCell (λ cell. IsByte (unwrap_or cell 0)) cell_small image h)

nothing_is_zero : (cell : Option ℕ) → is_some cell ≡ false → unwrap_or cell 0 ≡ 0
nothing_is_zero None h = refl
nothing_is_zero (Some b) h = absurd (true≢false h)

no_byte_is_zero : (image : List (Option ℕ)) (k : ℕ) → has_byte image k ≡ false
    → slice_index (map (λ cell. unwrap_or cell 0) image) k ≡ 0
unfolding has_byte
no_byte_is_zero image k h = get_or-map (λ cell. unwrap_or cell 0) image k None ∙ nothing_is_zero (get_or image k None) h

no_port_byte : (map : Map) (image : List (Option ℕ)) (k : ℕ) → has_port_byte map image ≡ false
    → is_port map k ≡ true → has_byte image k ≡ false
unfolding has_port_byte is_port
no_port_byte map image k none here = grind (arith, nat_tests)

loaded_is : (bus_map : Map) (image : List (Option ℕ)) → is_map bus_map.rom bus_map.port ≡ true
    → IsImage image → has_port_byte bus_map image ≡ false → IsBus (loaded_bus bus_map image)
unfolding loaded_bus memory_of
loaded_is bus_map image is whole none = record {
  map = is;
  size = length-map image (λ cell. unwrap_or cell 0) ∙ whole.size;
  memory = cells_small image whole.each;
  port = λ k here. no_byte_is_zero image k (no_port_byte bus_map image k none here);
  given = All-nil IsByte;
  given_room = omega arith;
  taken = omega arith;
  out = All-nil IsByte;
  out_room = omega arith;
}

reset_follows : (s : State) → IsBus s.bus → AreRegs s.regs → s.cycles ≤ most_cycles
    → Follows s (reset_state s)
unfolding reset_state
reset_follows s bus regs room = record {
  state = record {
    bus = (becomes_controlled s.bus false bus).bus;
    regs = record { a = regs.a; x = regs.x; y = regs.y; s = omega arith; pc = word_small s.bus 0xFFFC bus };
    cycles = omega arith;
  };
  map = refl;
}

no_regs_small : AreRegs no_regs
no_regs_small = record { a = omega arith; x = omega arith; y = omega arith; s = omega arith; pc = omega arith }

pub starts_are_states : StartsAreStates
unfolding start
starts_are_states bus_map image is whole none =
    (reset_follows (record { bus = loaded_bus bus_map image; regs = no_regs; irq = false; nmi = false; cycles = 0 })
    (loaded_is bus_map image is whole none) no_regs_small (omega arith)).state

-- ---- events

-- what has a new bus
with_bus : (s : State) (bus : Bus) → IsState s → Becomes s.bus bus → Follows s (record s { bus = bus })
with_bus s bus h k = record { state = record { bus = k.bus; regs = h.regs; cycles = h.cycles }; map = k.map }

set_small : (x : Setting) (regs : Regs) → IsSetting x → AreRegs regs → AreRegs (set_to x regs)
unfolding set_to
set_small (setting.A value) regs k h = record { a = k; x = h.x; y = h.y; s = h.s; pc = h.pc }
set_small (setting.X value) regs k h = record { a = h.a; x = k; y = h.y; s = h.s; pc = h.pc }
set_small (setting.Y value) regs k h = record { a = h.a; x = h.x; y = k; s = h.s; pc = h.pc }
set_small (setting.S value) regs k h = record { a = h.a; x = h.x; y = h.y; s = k; pc = h.pc }
set_small (setting.P value) regs k h = with_flags regs (flags_of_byte value) h
set_small (setting.Pc value) regs k h = record { a = h.a; x = h.x; y = h.y; s = h.s; pc = k }

reset_by : (s after : State) (full : Bool) → IsState s → nat_lt most_cycles s.cycles ≡ full
    → cond full (Err CyclesFull) (Ok (reset_state s)) ≡ Ok after → Follows s after
reset_by s after true h full e = cc
reset_by s after false h full e =
    let room : s.cycles ≤ most_cycles = grind (arith, nat_tests) in
    let same : reset_state s ≡ after = cc in
    rw same at (reset_follows s h.bus h.regs room)

input_by : (byte : ℕ) (s after : State) (full : Bool) → IsState s → byte < 256
    → nat_le console_size (length s.bus.given) ≡ full
    → cond full (Err InputFull) (Ok (record s { bus = record s.bus { given = s.bus.given ++ byte ∷ [] } })) ≡ Ok after → Follows s after
input_by byte s after true h small full e = cc
input_by byte s after false h small full e =
    let room : length s.bus.given < console_size = grind (arith, nat_tests) in
    let same : record s { bus = record s.bus { given = s.bus.given ++ byte ∷ [] } } ≡ after = cc in
    rw same at (with_bus s (record s.bus { given = s.bus.given ++ byte ∷ [] }) h (becomes_given s.bus byte h.bus small room))

patch_by : (address : ℕ) (bytes : List ℕ) (s after : State) (length_wrong past port : Bool)
    → IsState s → AreBytes bytes → meets_port s.bus.map address bytes ≡ port
    → cond length_wrong (Err BadLength) (cond past (Err PastEnd)
    (cond port (Err PortAddress) (Ok (record s { bus = bus_with_patch address bytes s.bus })))) ≡ Ok after → Follows s after
patch_by address bytes s after true past port h small away e = cc
patch_by address bytes s after false true port h small away e = cc
patch_by address bytes s after false false true h small away e = cc
patch_by address bytes s after false false false h small away e =
    let same : record s { bus = bus_with_patch address bytes s.bus } ≡ after = cc in
    rw same at (with_bus s (bus_with_patch address bytes s.bus) h (becomes_patched bytes s.bus address h.bus small away))

patch_follows : (address : ℕ) (bytes : List ℕ) (s after : State) → IsState s → AreBytes bytes
    → patch_of address bytes s ≡ Ok after → Follows s after
unfolding patch_of
patch_follows address bytes s after h small e = patch_by address bytes s after _ _ (meets_port s.bus.map address bytes) h small refl e

counted_by : (address : ℕ) (bytes : List ℕ) (count : ℕ) (s after : State) (many : Bool) → IsState s
    → AreBytes bytes
    → cond many (Err BadLength) (patch_of address (take count bytes) s) ≡ Ok after → Follows s after
counted_by address bytes count s after true h small e = cc
counted_by address bytes count s after false h small e = patch_follows address (take count bytes) s after h (All-take IsByte count bytes small) e

followed : (s after : State) (x : Event) → IsState s → IsEvent x → event_of s x ≡ Ok after
    → Follows s after
unfolding event_of reset_of input_of
followed s after event.Step h k e = step_follows s after h e
followed s after event.Reset h k e = reset_by s after (nat_lt most_cycles s.cycles) h refl e
followed s after (event.Irq level) h k e =
    let same : record s { irq = level } ≡ after = cc in
    let whole : Follows s (record s { irq = level }) = record { state = record { bus = h.bus; regs = h.regs; cycles = h.cycles }; map = refl } in
    rw same at whole
followed s after event.Nmi h k e =
    let same : record s { nmi = true } ≡ after = cc in
    let whole : Follows s (record s { nmi = true }) = record { state = record { bus = h.bus; regs = h.regs; cycles = h.cycles }; map = refl } in
    rw same at whole
followed s after (event.Set x) h k e =
    let same : record s { regs = set_to x s.regs } ≡ after = cc in
    let whole : Follows s (record s { regs = set_to x s.regs }) =
    record { state = record { bus = h.bus; regs = set_small x s.regs k h.regs; cycles = h.cycles }; map = refl } in
    rw same at whole
followed s after (event.Patch address bytes count) h k e = counted_by address bytes count s after (nat_lt 3 count) h k e
followed s after (event.Input byte) h k e = input_by byte s after (nat_le console_size (length s.bus.given)) h k refl e

pub events_keep_states : EventsKeepStates
events_keep_states before after x h k e = let whole = followed before after x h k e in (whole.state, whole.map)
