-- Where parameters and locals are: an `auto` of the debug file stands at an offset from the base of
-- its frame. Source: cc65 2.19, whose files say no sizes; our own rule for sizes, and for what is
-- not shown.
use Rattle.std.specs.Prelude.{ℕ, ◌+◌, ◌-◌, ◌%◌, ◌&&◌, nat_lt, Bool, if◌then◌else◌, List, [], ◌∷◌, Option, Some, None}
use Rattle.std.specs.Option.{option_and_then, option_map}
use Rattle.c_frames.specs.Closures.{depth_at}
use Rattle.c_frames.specs.Frames.{known, pushed_first}
use Rattle.c_frames.specs.Programs.{Program}
use Rattle.c_frames.specs.declared.locals.Auto.{Auto}
use Rattle.c_frames.specs.declared.locals.Local.{Local}
use Rattle.c_frames.specs.declared.programs.Function.{Function}
use Rattle.c_frames.specs.declared.rises.Depth.{Depth}
use Rattle.c_frames.specs.declared.walk.Frame.{Frame}

abbrev pub local_address : ℕ → ℕ → ℕ
local_address base offset = (base + offset) % 65536

-- The lower one of an address that was found and of one more, if that is above a local.
abbrev pub nearer : ℕ → Option ℕ → ℕ → Option ℕ
nearer local None other = if nat_lt local other then Some other else None
nearer local (Some best) other = if nat_lt local other && nat_lt other best then Some other
    else Some best

abbrev pub nearest : ℕ → ℕ → Option ℕ → List Auto → Option ℕ
nearest local base best [] = best
nearest local base best (auto ∷ autos)
    = nearest local base (nearer local best (local_address base auto.offset)) autos

-- A function takes its parameters off at its end, those that it pushed first of all too.
abbrev pub parameters_end : Program → List Depth → Function → ℕ → Option ℕ
parameters_end p rests function base
    = option_map (λ rise. (base + pushed_first p function.start + rise.sp) % 65536)
    (known (depth_at rests function.start))

abbrev pub nearer_end : ℕ → Option ℕ → Option ℕ → Option ℕ
nearer_end local best None = best
nearer_end local best (Some end) = nearer local best end

-- A local reaches to the next one above it, to the base of its frame, or to the end of the
-- parameters.
abbrev pub end_of : Program → List Depth → Function → ℕ → List Auto → ℕ → Option ℕ
end_of p rests function base autos local = nearest local base
    (nearer_end local (nearer local None base) (parameters_end p rests function base)) autos

-- cc65 gives room to parameters and locals downwards, in the order in which they are declared. For a
-- register variable it saves there what the register held, and no record has an offset of that: what
-- is declared next has an end that is not known.
abbrev pub size_of : Bool → ℕ → Option ℕ → Option ℕ
size_of follows_register local end
    = if follows_register then None else option_map (λ end. end - local) end

-- Below the software stack pointer nothing is there yet, or any more.
abbrev pub local_in : Program → List Depth → ℕ → List Auto → Auto → Function → ℕ → Option Local
local_in p rests sp autos auto function base =
    let local = local_address base auto.offset in
    if nat_lt local sp then None else Some (record {
      address = local;
      size = size_of auto.follows_register local (end_of p rests function base autos local);
    })

-- Where a local is in a frame, by all locals of its function.
abbrev pub local_at : Program → List Depth → Frame → List Auto → Auto → Option Local
local_at p rests frame autos auto = option_and_then
    (λ function. option_and_then (local_in p rests frame.sp autos auto function) frame.base)
    frame.function
