-- What the processor's accesses, patches and input make of a bus is a bus.
use Rattle.std.proofs.Common.{◌≡◌, ◌≢◌, ℕ, ◌+◌, ◌%◌, ◌<◌, ◌≤◌, Bool, true, false, cond, List, [], ◌∷◌, ◌++◌, length, Option, refl, sym, ap, ◌∙◌, arith, length-append, true≢false}
use Rattle.std.specs.Prelude.{slice_index, ◌&&◌, ◌||◌, ◌==◌, nat_le, nat_lt}
use Rattle.std.proofs.lemmas.List.{length-set, get_or-set_other}
use Rattle.std.proofs.lemmas.List.Elements.{All-set, All-push, All-head, All-tail}
use Rattle.std.proofs.lemmas.Bool.Decides.{nat_tests}
use Rattle.model.specs.State.{Map, Bus, console_size, is_map, is_port, is_rom, input_waits, byte_read, after_read, overflows, after_write, bus_with_byte, AreBytes, IsBus}
use Rattle.model.specs.Event.{meets_port, bus_with_patch}
use Rattle.law_states.proofs.Numbers.{byte_small}

abbrev IsByte : ℕ → Type 0
IsByte b = b < 256

-- a bus that another becomes
pub record Becomes (before after : Bus) : Type 0 where
  pub bus : IsBus after
  pub map : after.map ≡ before.map

pub stays : (bus : Bus) → IsBus bus → Becomes bus bus
stays bus h = record { bus = h; map = refl }

pub then : (a b c : Bus) → Becomes a b → Becomes b c → Becomes a c
then a b c h k = record { bus = k.bus; map = k.map ∙ h.map }

-- ---- memory

elsewhere : (map : Map) (k address : ℕ) → is_port map k ≡ true → is_port map address ≡ false
    → k ≢ address
elsewhere map k address here away same = true≢false (sym here ∙ ap (is_port map) same ∙ away)

pub becomes_stored : (bus : Bus) (address value : ℕ) → IsBus bus → value < 256
    → is_port bus.map address ≡ false → Becomes bus (bus_with_byte bus address value)
becomes_stored bus address value h small away = record { bus = kept; map = refl } where
  kept : IsBus (bus_with_byte bus address value)
  kept = record {
    map = h.map;
    size = length-set bus.memory address value ∙ h.size;
    memory = All-set IsByte bus.memory address value small h.memory;
    port = λ k here. get_or-set_other bus.memory address k value 0 (elsewhere bus.map k address here away) ∙ h.port k here;
    given = h.given;
    given_room = h.given_room;
    taken = h.taken;
    out = h.out;
    out_room = h.out_room;
  }

-- a port stands at $0200 or above
port_high : (rom : Option (ℕ × ℕ)) (port : ℕ) → is_map rom port ≡ true → 512 ≤ port
unfolding is_map
port_high rom port e = grind (arith, nat_tests)

below_port : (port s : ℕ) → 512 ≤ port → s < 256
    → (nat_le port (256 + s) && nat_lt (256 + s) (port + 4)) ≡ false
below_port port s high small = grind (arith, nat_tests)

-- the stack lies below $0200, where no port stands
pub stack_is_plain : (bus : Bus) (s : ℕ) → IsBus bus → s < 256 → is_port bus.map (256 + s) ≡ false
unfolding is_port
stack_is_plain bus s h small = below_port bus.map.port s (port_high bus.map.rom bus.map.port h.map) small

-- ---- the console

appended : (bus : Bus) (value : ℕ) → IsBus bus → value < 256 → length bus.out < console_size → Becomes bus (record bus { out = bus.out ++ value ∷ [] })
appended bus value h small room = record { bus = kept; map = refl } where
  kept : IsBus (record bus { out = bus.out ++ value ∷ [] })
  kept = record {
    map = h.map;
    size = h.size;
    memory = h.memory;
    port = h.port;
    given = h.given;
    given_room = h.given_room;
    taken = h.taken;
    out = All-push IsByte bus.out value h.out small;
    out_room = omega (arith, length-append bus.out (value ∷ []));
  }

pub becomes_given : (bus : Bus) (byte : ℕ) → IsBus bus → byte < 256 → length bus.given < console_size
    → Becomes bus (record bus { given = bus.given ++ byte ∷ [] })
becomes_given bus byte h small room = record { bus = kept; map = refl } where
  kept : IsBus (record bus { given = bus.given ++ byte ∷ [] })
  kept = record {
    map = h.map;
    size = h.size;
    memory = h.memory;
    port = h.port;
    given = All-push IsByte bus.given byte h.given small;
    given_room = omega (arith, length-append bus.given (byte ∷ []));
    taken = omega (arith, h.taken, length-append bus.given (byte ∷ []));
    out = h.out;
    out_room = h.out_room;
  }

-- a bus is one with either control byte
pub becomes_controlled : (bus : Bus) (control : Bool) → IsBus bus → Becomes bus (record bus { control = control })
becomes_controlled bus control h = record { bus = kept; map = refl } where
  kept : IsBus (record bus { control = control })
  kept = record {
    map = h.map;
    size = h.size;
    memory = h.memory;
    port = h.port;
    given = h.given;
    given_room = h.given_room;
    taken = h.taken;
    out = h.out;
    out_room = h.out_room;
  }

taken_one : (bus : Bus) → IsBus bus → bus.taken < length bus.given → Becomes bus (record bus { taken = bus.taken + 1 })
taken_one bus h waits = record { bus = kept; map = refl } where
  kept : IsBus (record bus { taken = bus.taken + 1 })
  kept = record {
    map = h.map;
    size = h.size;
    memory = h.memory;
    port = h.port;
    given = h.given;
    given_room = h.given_room;
    taken = omega arith;
    out = h.out;
    out_room = h.out_room;
  }

-- ---- accesses

read_by : (bus : Bus) (takes waits : Bool) → IsBus bus → input_waits bus ≡ waits
    → Becomes bus (cond (takes && waits) (record bus { taken = bus.taken + 1 }) bus)
read_by bus true true h e = let less : bus.taken < length bus.given = grind (arith, nat_tests) in taken_one bus h less
read_by bus true false h e = stays bus h
read_by bus false waits h e = stays bus h

pub becomes_read : (bus : Bus) (address : ℕ) → IsBus bus → Becomes bus (after_read bus address)
unfolding after_read
becomes_read bus address h = read_by bus (address == bus.map.port + 1) (input_waits bus) h refl

one_or_none : (is : Bool) → cond is 1 0 < 256
one_or_none true = omega arith
one_or_none false = omega arith

read_small_by : (bus : Bus) (address : ℕ) (port first second third waits : Bool) → IsBus bus
    → cond port (cond first (cond waits (slice_index bus.given bus.taken) 0) (cond second (cond waits 1 0) (cond third (cond bus.control 1 0) 0)))
    (slice_index bus.memory address) < 256
read_small_by bus address false first second third waits h = byte_small bus.memory address h.memory
read_small_by bus address true true second third true h = byte_small bus.given bus.taken h.given
read_small_by bus address true true second third false h = omega arith
read_small_by bus address true false true third waits h = one_or_none waits
read_small_by bus address true false false true waits h = one_or_none bus.control
read_small_by bus address true false false false waits h = omega arith

pub read_small : (bus : Bus) (address : ℕ) → IsBus bus → byte_read bus address < 256
unfolding byte_read
read_small bus address h = read_small_by bus address (is_port bus.map address) (address == bus.map.port + 1) (address == bus.map.port + 2)
    (address == bus.map.port + 3) (input_waits bus) h

write_by : (bus : Bus) (address value : ℕ) (port first third rom : Bool) → IsBus bus → value < 256
    → is_port bus.map address ≡ port → (first && nat_le console_size (length bus.out)) ≡ false
    → Becomes bus (cond port (cond first (record bus { out = bus.out ++ value ∷ [] }) (cond third (record bus { control = value % 2 == 1 }) bus))
    (cond rom bus (bus_with_byte bus address value)))
write_by bus address value true true third rom h small here room = let less : length bus.out < console_size = grind (arith, nat_tests) in
    appended bus value h small less
write_by bus address value true false true rom h small here room = becomes_controlled bus (value % 2 == 1) h
write_by bus address value true false false rom h small here room = stays bus h
write_by bus address value false first third true h small here room = stays bus h
write_by bus address value false first third false h small here room = becomes_stored bus address value h small here

pub becomes_written : (bus : Bus) (address value : ℕ) → IsBus bus → value < 256
    → overflows bus address ≡ false → Becomes bus (after_write bus address value)
unfolding after_write overflows
becomes_written bus address value h small room = write_by bus address value (is_port bus.map address) (address == bus.map.port)
    (address == bus.map.port + 3) (is_rom bus.map address) h small refl room

-- a read changes neither the map nor the output
room_by : (bus : Bus) (address : ℕ) (takes : Bool) → overflows (cond takes (record bus { taken = bus.taken + 1 }) bus) address ≡ overflows bus address
unfolding overflows
room_by bus address true = refl
room_by bus address false = refl

pub room_after_read : (bus : Bus) (address at' : ℕ)
    → overflows (after_read bus at') address ≡ overflows bus address
unfolding after_read
room_after_read bus address at' = room_by bus address ((at' == bus.map.port + 1) && input_waits bus)

-- ---- patches

neither : (a b : Bool) → (a || b) ≡ false → (a ≡ false) × (b ≡ false)
neither true b h = absurd (true≢false h)
neither false b h = (refl, h)

pub becomes_patched : (bytes : List ℕ) (bus : Bus) (address : ℕ) → IsBus bus → AreBytes bytes
    → meets_port bus.map address bytes ≡ false → Becomes bus (bus_with_patch address bytes bus)
becomes_patched [] bus address h small away = stays bus h
becomes_patched (byte ∷ bytes) bus address h small away =
    let split = neither (is_port bus.map address) (meets_port bus.map (address + 1) bytes) away in
    let one = becomes_stored bus address byte h (All-head IsByte byte bytes small) split.0 in
    then bus (bus_with_byte bus address byte) (bus_with_patch (address + 1) bytes (bus_with_byte bus address byte)) one
    (becomes_patched bytes (bus_with_byte bus address byte) (address + 1) one.bus (All-tail IsByte byte bytes small) split.1)
