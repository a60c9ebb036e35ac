-- How a table comes to be closed: what it knows is raised until nothing changes. Source: mos65.
use Rattle.std.specs.Prelude.{◌≡◌, ℕ, ◌<◌, Bool, List, length, MatchBool}
use Rattle.std.specs.List.{sum_by}
use Rattle.c_frames.specs.Closures.{AreBelow, depth_at}
use Rattle.c_frames.specs.declared.rises.Depth.{Depth}
use Rattle.c_frames.specs.declared.rises.Depth.TheVariants.{Unknown, Known, Differing}

-- How often what is known of an address can still change.
abbrev pub room_of : Depth → ℕ
room_of Unknown = 2
room_of (Known rise) = 1
room_of Differing = 0

abbrev pub room : List Depth → ℕ
room table = sum_by room_of table

-- A table was raised: it is still below each table that is closed, and either has less room, or is
-- as it was, and then something was done already.
pub record Raises (IsClosed IsDone : (ℕ → Depth) → Type 0) (old new : List Depth) (changed : Bool)
    : Type 0 where
  pub size : length new ≡ 65536
  pub kept : (others : ℕ → Depth) → IsClosed others → AreBelow (depth_at old) others
      → AreBelow (depth_at new) others
  pub change : MatchBool changed (room new < room old) ((new ≡ old) × IsDone (depth_at old))
