-- What is added on the ways through a program, as the least tables closed under rules. Source:
-- mos65.
use Rattle.std.specs.Prelude.{◌≡◌, ℕ, ◌<◌, ◌==◌, if◌then◌else◌, List, get_or, length, map, Option, Some, None}
use Rattle.c_frames.specs.Programs.{Program}
use Rattle.c_frames.specs.Rises.{IsBelow, joined, no_rise, summed}
use Rattle.c_frames.specs.Ways.{ways_at}
use Rattle.c_frames.specs.declared.programs.Function.{Function}
use Rattle.c_frames.specs.declared.rises.Depth.{Depth}
use Rattle.c_frames.specs.declared.rises.Depth.TheVariants.{Unknown, Known, Differing}
use Rattle.c_frames.specs.declared.ways.Change.{Change}
use Rattle.c_frames.specs.declared.ways.Change.TheVariants.{Rises, Calls}
use Rattle.c_frames.specs.declared.ways.Way.{Way}
use Rattle.c_frames.specs.declared.ways.Ways.{Ways}

-- What a table knows at an address.
abbrev pub depth_at : List Depth → ℕ → Depth
depth_at table address = get_or table address Unknown

abbrev pub AreBelow : (ℕ → Depth) → (ℕ → Depth) → Type 0
AreBelow depths others = (address : ℕ) → IsBelow (depths address) (others address)

-- ---- what is added from an instruction to the end of its routine

-- A routine returns to its call if the stack pointer is where it was.
abbrev pub returned : Depth → Depth
returned Unknown = Unknown
returned (Known rise) = if rise.s == 0 then Known rise else Unknown
returned Differing = Differing

abbrev pub change_by : (ℕ → Depth) → Change → Depth
change_by rests (Rises rise) = Known rise
change_by rests (Calls address) = returned (rests address)

-- At the end nothing is added any more.
abbrev pub rest_from : (ℕ → Depth) → Option ℕ → Depth
rest_from rests None = Known no_rise
rest_from rests (Some address) = rests address

abbrev pub rest_along : (ℕ → Depth) → Option Way → Depth
rest_along rests None = Unknown
rest_along rests (Some way) = summed (change_by rests way.change) (rest_from rests way.to)

abbrev pub rest_by : (ℕ → Depth) → Ways → Depth
rest_by rests ways = joined (rest_along rests ways.first) (rest_along rests ways.second)

-- What is added on each way from an instruction, and from there on, is known.
abbrev pub AreRestsClosed : Program → (ℕ → Depth) → Type 0
AreRestsClosed p rests
    = (address : ℕ) → address < 65536 → IsBelow (rest_by rests (ways_at p address)) (rests address)

-- ---- what was added since the first byte of a function

abbrev pub depth_along : (ℕ → Depth) → Depth → Option Way → Depth
depth_along rests depth None = Unknown
depth_along rests depth (Some way) = summed depth (change_by rests way.change)

-- What is known where a way leads. At the end of a routine anything may be.
abbrev pub depth_to : (ℕ → Depth) → Option ℕ → Depth
depth_to depths None = Differing
depth_to depths (Some address) = depths address

abbrev pub depth_behind : (ℕ → Depth) → Option Way → Depth
depth_behind depths None = Differing
depth_behind depths (Some way) = depth_to depths way.to

-- What was added at an instruction, and on a way from it, is known where the way leads.
abbrev pub GoesAlong : (ℕ → Depth) → Depth → Option Way → (ℕ → Depth) → Type 0
GoesAlong rests depth way depths = IsBelow (depth_along rests depth way) (depth_behind depths way)

abbrev pub GoesOn : (ℕ → Depth) → Depth → Ways → (ℕ → Depth) → Type 0
GoesOn rests depth ways depths
    = GoesAlong rests depth ways.first depths × GoesAlong rests depth ways.second depths

-- At the first byte of each function nothing was added.
abbrev pub AreBegun : List Function → (ℕ → Depth) → Type 0
AreBegun functions depths = (i : ℕ) → i < length functions
    → IsBelow (Known no_rise) (depths (get_or (map (λ function. function.start) functions) i 0))

pub record AreDepthsClosed (p : Program) (rests depths : ℕ → Depth) : Type 0 where
  pub begun : AreBegun p.functions depths
  pub on : (address : ℕ) → address < 65536
      → GoesOn rests (depths address) (ways_at p address) depths

-- ---- least tables

-- A table of all addresses is closed, and no closed one has less.
pub record IsLeast (IsClosed : (ℕ → Depth) → Type 0) (table : List Depth) : Type 0 where
  pub size : length table ≡ 65536
  pub closed : IsClosed (depth_at table)
  pub least : (others : ℕ → Depth) → IsClosed others → AreBelow (depth_at table) others

abbrev pub AreRests : Program → List Depth → Type 0
AreRests p table = IsLeast (AreRestsClosed p) table

abbrev pub AreDepths : Program → List Depth → List Depth → Type 0
AreDepths p rests table = IsLeast (AreDepthsClosed p (depth_at rests)) table
