-- When a break or a watch stops a run. Source: mos65.
use Rattle.std.specs.Prelude.{ℕ, ◌+◌, ◌-◌, ◌==◌, ◌&&◌, Bool, true, false, not, nat_eq, nat_lt, nat_le, if◌then◌else◌, List, [], ◌∷◌, ◌++◌, zero, suc, length, slice_index, find, filter, is_some, Option, Some, None}
use Rattle.std.specs.List.{list_all, list_any}
use Rattle.std.specs.Option.{option_or}
use Rattle.std.specs.Set.{remove_key}
use Rattle.model.specs.State.{State}
use Rattle.model.specs.Arithmetic.{bit}
use Rattle.model.specs.Effect.{status}
use Rattle.model.specs.declared.registers.Regs.{Regs}
use Rattle.mon_lines.specs.declared.command.Register.{Register}
use Rattle.mon_lines.specs.declared.command.Register.TheVariants.{A, X, Y, S, P, Pc}
use Rattle.mon_lines.specs.declared.command.Left.{Left}
use Rattle.mon_lines.specs.declared.command.Left.TheVariants as left
use Rattle.mon_lines.specs.declared.command.Compare.{Compare}
use Rattle.mon_lines.specs.declared.command.Compare.TheVariants.{Equal, Other, Less, LessOrEqual, More, MoreOrEqual}
use Rattle.mon_lines.specs.declared.command.Stretch.{Stretch}
use Rattle.mon_lines.specs.declared.command.Test.{Test}
use Rattle.mon_lines.specs.declared.command.WatchKind.{WatchKind}
pub use Rattle.mon_lines.specs.declared.command.WatchKind.TheVariants.{Change, Read, Write}
use Rattle.opcode_facts.specs.Flag.{has_flag}
use Rattle.mon_runs.specs.declared.breaks.Break.{Break}
use Rattle.mon_runs.specs.declared.changes.RegisterChange.{RegisterChange}
use Rattle.mon_runs.specs.declared.watches.Watch.{Watch}
use Rattle.mon_runs.specs.declared.watches.Watch.TheVariants as watch
use Rattle.mon_runs.specs.declared.stops.Stops.{Stops}

-- The value of a register. P has bit 5 set and bit 4 clear.
abbrev pub in_regs : Register → Regs → ℕ
in_regs A regs = regs.a
in_regs X regs = regs.x
in_regs Y regs = regs.y
in_regs S regs = regs.s
in_regs P regs = status false regs.flags
in_regs Pc regs = regs.pc

abbrev pub register_of : Register → State → ℕ
register_of register state = in_regs register state.regs

-- The value of the left side of a test: a register, a flag, or a byte of memory.
abbrev pub value_of : Left → State → ℕ
value_of (left.Register register) state = register_of register state
value_of (left.Flag flag) state = bit (has_flag flag state.regs.flags)
value_of (left.Byte address) state = slice_index state.bus.memory address

abbrev pub compares : Compare → ℕ → ℕ → Bool
compares Equal value right = value == right
compares Other value right = not (value == right)
compares Less value right = nat_lt value right
compares LessOrEqual value right = nat_le value right
compares More value right = nat_lt right value
compares MoreOrEqual value right = nat_le right value

abbrev pub holds : State → Test → Bool
holds state test = compares test.compare (value_of test.left state) test.right

abbrev pub all_hold : State → List Test → Bool
all_hold state tests = list_all (holds state) tests

-- ---- visits

-- Whether a break stands at an address.
abbrev pub is_at : ℕ → Break → Bool
is_at address b = nat_eq b.address address

-- Whether the next visit that counts is the last of as many as the break says.
abbrev pub is_last_visit : Break → Bool
is_last_visit b = nat_le b.times (b.visits + 1)

-- A break after a visit that counts. After the last of them it counts from 0 again.
abbrev pub counted : Break → Break
counted b = record b { visits = if is_last_visit b then 0 else b.visits + 1 }

-- Whether a visit stops a run: the tests hold, and it is the last of as many as the break says.
abbrev pub is_stop : State → Break → Bool
is_stop state b = all_hold state b.tests.items && is_last_visit b

-- A break after a visit, which counts where the tests hold.
abbrev pub visited : State → Break → Break
visited state b = if all_hold state b.tests.items then counted b else b

-- Whether a visit at an address stops a run: the first break there says so. Where none stands there
-- it does, as the session's own breakpoint.
unfoldable pub stops_at : ℕ → List Break → State → Bool
stops_at address [] state = true
stops_at address (b ∷ rest) state = if is_at address b then is_stop state b
    else stops_at address rest state

-- The breaks after a visit at an address: the first one there was visited.
unfoldable pub after_visit : ℕ → List Break → State → List Break
after_visit address [] state = []
after_visit address (b ∷ rest) state = if is_at address b then visited state b ∷ rest
    else b ∷ after_visit address rest state

-- The breaks without the first one at an address.
abbrev pub without : ℕ → List Break → List Break
without address breaks = remove_key (is_at address) breaks

-- A break that stops a run at each visit.
abbrev pub is_plain_break : Break → Bool
is_plain_break b = nat_eq (length b.tests.items) 0 && nat_le b.times 1

-- ---- watches

-- Whether an address lies in a stretch.
abbrev pub is_within : Stretch → ℕ → Bool
is_within stretch address = nat_le stretch.first address && nat_le address stretch.last

-- Whether an address is one of those watched.
abbrev pub has : Watch → ℕ → Bool
has (watch.Bytes stretch kind) address = is_within stretch address
has (watch.Register register) address = false

abbrev pub is_same_kind : WatchKind → WatchKind → Bool
is_same_kind Change Change = true
is_same_kind Read Read = true
is_same_kind Write Write = true
is_same_kind kind other = false

-- Whether a watch is for an access of a kind at an address.
abbrev pub is_for : WatchKind → ℕ → Watch → Bool
is_for kind address (watch.Bytes stretch own) = is_same_kind own kind && is_within stretch address
is_for kind address (watch.Register register) = false

-- Whether an access of a kind at an address stops a run.
unfoldable pub has_access : WatchKind → ℕ → List Watch → Bool
has_access kind address watches = list_any (is_for kind address) watches

-- The first watch that has an address, and the watches without it.
abbrev pub first_with : ℕ → List Watch → Option Watch
first_with address watches = find (λ w. has w address) watches

abbrev pub without_first_with : ℕ → List Watch → List Watch
without_first_with address watches = remove_key (λ w. has w address) watches

-- Of some addresses those at which a change stops a run.
abbrev pub changes_of : List Watch → List ℕ → List ℕ
changes_of watches addresses = filter (λ a. has_access Change a watches) addresses

-- The bytes of a watch for changes, which the session itself makes.
abbrev pub if_changes : Stretch → WatchKind → Option Stretch
if_changes stretch Change = Some stretch
if_changes stretch Read = None
if_changes stretch Write = None

abbrev pub changed : Watch → Option Stretch
changed (watch.Bytes stretch kind) = if_changes stretch kind
changed (watch.Register register) = None

abbrev pub is_change : Watch → Bool
is_change w = is_some (changed w)

-- The first n addresses from one on.
unfoldable pub addresses : ℕ → ℕ → List ℕ
addresses first zero = []
addresses first (suc n) = addresses first n ++ (first + n) ∷ []

-- Of some addresses those at which a change stops no run yet.
abbrev pub new_among : List Watch → List ℕ → List ℕ
new_among watches addresses = filter (λ a. not (has_access Change a watches)) addresses

-- The addresses at which a change stops a run once a watch is set, and did not before.
abbrev pub new_in : List Watch → Option Stretch → List ℕ
new_in watches None = []
new_in watches (Some stretch)
    = new_among watches (addresses stretch.first ((stretch.last + 1) - stretch.first))

abbrev pub new_changes : List Watch → Watch → List ℕ
new_changes watches w = new_in watches (changed w)

-- Only the changes of bytes are watched.
abbrev pub has_changes_only : Stops → Bool
has_changes_only stops = list_all is_change stops.watches.items

-- The session's own stops are all there are.
abbrev pub is_plain : Stops → Bool
is_plain stops = list_all is_plain_break stops.breaks.items && has_changes_only stops

-- ---- registers

abbrev pub is_same_register : Register → Register → Bool
is_same_register A A = true
is_same_register X X = true
is_same_register Y Y = true
is_same_register S S = true
is_same_register P P = true
is_same_register Pc Pc = true
is_same_register register other = false

-- Whether a register is what is watched.
abbrev pub is_of : Register → Watch → Bool
is_of register (watch.Bytes stretch kind) = false
is_of register (watch.Register own) = is_same_register own register

-- Whether some watch is of a register, and the watches without the first such one.
abbrev pub is_watched : Register → List Watch → Bool
is_watched register watches = is_some (find (is_of register) watches)

abbrev pub without_register : Register → List Watch → List Watch
without_register register watches = remove_key (is_of register) watches

-- How a step has changed a register, if it has: the registers before it and after it are these.
abbrev pub changed_in : Register → Regs → Regs → Option RegisterChange
changed_in register before after = if in_regs register before == in_regs register after then None
    else Some (record {
      register = register;
      before = in_regs register before;
      after = in_regs register after;
    })

abbrev pub change_at : Regs → Regs → Watch → Option RegisterChange
change_at before after (watch.Bytes stretch kind) = None
change_at before after (watch.Register register) = changed_in register before after

-- The change of the first watched register that a step has changed.
unfoldable pub register_change : List Watch → Regs → Regs → Option RegisterChange
register_change [] before after = None
register_change (w ∷ watches) before after
    = option_or (change_at before after w) (register_change watches before after)
