-- Frames of C, from one state of a machine to its callers. Source: what JSR and RTS do with the
-- stack, MCS6500 manual, chapter 8; the code that cc65 2.19 makes; mos65 for where the way ends.
use Rattle.std.specs.Prelude.{ℕ, zero, suc, ◌+◌, ◌-◌, ◌*◌, ◌%◌, ◌==◌, ◌&&◌, nat_le, nat_lt, Bool, true, false, if◌then◌else◌, List, [], ◌∷◌, Option, Some, None}
use Rattle.std.specs.Option.{option_and_then, option_map}
use Rattle.c_frames.specs.Closures.{depth_at}
use Rattle.c_frames.specs.Programs.{Program}
use Rattle.c_frames.specs.Routines.{effect_at}
use Rattle.c_frames.specs.Ways.{byte_at, word_at}
use Rattle.c_frames.specs.declared.programs.Function.{Function}
use Rattle.c_frames.specs.declared.rises.Depth.{Depth}
use Rattle.c_frames.specs.declared.rises.Depth.TheVariants.{Unknown, Known, Differing}
use Rattle.c_frames.specs.declared.rises.Rise.{Rise}
use Rattle.c_frames.specs.declared.routines.Effect.{Effect}
use Rattle.c_frames.specs.declared.routines.Effect.TheVariants.{Adds, Takes, Pushes, Enter, AddsY, SubtractsY}
use Rattle.c_frames.specs.declared.walk.Frame.{Frame}
use Rattle.c_frames.specs.declared.walk.Standing.{Standing}

-- ---- the function at an address

abbrev pub has_byte : ℕ → Function → Bool
has_byte address function
    = nat_le function.start address && nat_lt address (function.start + function.size)

abbrev pub function_at : List Function → ℕ → Option Function
function_at [] address = None
function_at (function ∷ functions) address = if has_byte address function then Some function
    else function_at functions address

-- ---- what is known in a function

abbrev pub is_differing : Depth → Bool
is_differing Unknown = false
is_differing (Known rise) = false
is_differing Differing = true

-- Whether two ways differ at one of so many addresses below one.
abbrev pub differs : List Depth → ℕ → ℕ → Bool
differs depths start zero = false
differs depths start (suc count) = if is_differing (depth_at depths (start + count)) then true
    else differs depths start count

abbrev pub known : Depth → Option Rise
known Unknown = None
known (Known rise) = Some rise
known Differing = None

-- Where two ways differ, nothing of the function is known.
abbrev pub rise_in : List Depth → Function → ℕ → Option Rise
rise_in depths function address = if differs depths function.start function.size then None
    else known (depth_at depths address)

abbrev pub rise_at : Program → List Depth → ℕ → Option Rise
rise_at p depths address = option_and_then (λ function. rise_in depths function address)
    (function_at p.functions address)

-- ---- the first byte of a function

-- How many bytes of its last parameter a function pushes first of all.
abbrev pub pushed_by : Option Effect → ℕ
pushed_by None = 0
pushed_by (Some (Adds number)) = 0
pushed_by (Some (Takes number)) = 0
pushed_by (Some (Pushes number)) = number
pushed_by (Some Enter) = 1
pushed_by (Some (AddsY more)) = 0
pushed_by (Some SubtractsY) = 0

abbrev pub pushed_first : Program → ℕ → ℕ
pushed_first p start = if byte_at p.memory start == 0x20
    then pushed_by (effect_at p.routines (word_at p.memory ((start + 1) % 65536))) else 0

-- The stack pointers as they were before they rose.
abbrev pub entry_of : Standing → Rise → Standing
entry_of at rise = record {
  pc = at.pc;
  s = (at.s + 256 - rise.s) % 256;
  sp = (at.sp + 65536 - rise.sp) % 65536;
}

-- What the software stack pointer is once the last parameter is pushed.
abbrev pub base_of : Program → Function → Standing → ℕ
base_of p function entry = (entry.sp + 65536 - pushed_first p function.start) % 65536

-- ---- frames

abbrev pub base_in : Program → List Depth → Standing → Function → Option ℕ
base_in p depths at function = option_map (λ rise. base_of p function (entry_of at rise))
    (rise_in depths function at.pc)

abbrev pub frame_at : Program → List Depth → Standing → Frame
frame_at p depths at = record {
  address = at.pc;
  s = at.s;
  sp = at.sp;
  function = function_at p.functions at.pc;
  base = option_and_then (base_in p depths at) (function_at p.functions at.pc);
}

-- The call that led to a function: its return address stands above the stack pointer, and a JSR
-- stands before that.
abbrev pub call_before : List ℕ → Standing → ℕ
call_before memory entry = (byte_at memory (256 + (entry.s + 1))
    + 256 * byte_at memory (256 + (entry.s + 2)) + 65534) % 65536

abbrev pub call_of : List ℕ → Standing → Option Standing
call_of memory entry = if nat_lt 253 entry.s then None
    else if byte_at memory (call_before memory entry) == 0x20 then Some (record {
      pc = call_before memory entry;
      s = entry.s + 2;
      sp = entry.sp;
    }) else None

abbrev pub caller_of : Program → List Depth → List ℕ → Standing → Option Standing
caller_of p depths memory at
    = option_and_then (λ rise. call_of memory (entry_of at rise)) (rise_at p depths at.pc)

-- So many frames at most, the innermost first.
abbrev pub frames_from : Program → List Depth → List ℕ → ℕ → Option Standing → List Frame
frames_from p depths memory zero at = []
frames_from p depths memory (suc n) None = []
frames_from p depths memory (suc n) (Some at) = frame_at p depths at
    ∷ frames_from p depths memory n (caller_of p depths memory at)
