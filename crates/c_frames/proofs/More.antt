-- Where more is known of routines and of addresses, more is known of ways.
use Rattle.std.proofs.Common.{ℕ, Option, Some, None, refl}
use Rattle.c_frames.proofs.Order.{below_self, joined_more, returned_more, summed_more}
use Rattle.c_frames.specs.Closures.{AreBelow, change_by, depth_along, rest_along, rest_by, rest_from}
use Rattle.c_frames.specs.Rises.{IsBelow}
use Rattle.c_frames.specs.declared.rises.Depth.{Depth}
use Rattle.c_frames.specs.declared.ways.Change.{Change}
use Rattle.c_frames.specs.declared.ways.Change.TheVariants.{Rises, Calls}
use Rattle.c_frames.specs.declared.ways.Way.{Way}
use Rattle.c_frames.specs.declared.ways.Ways.{Ways}

change_more : (f g : ℕ → Depth) (change : Change) → AreBelow f g → IsBelow (change_by f change) (change_by g change)
change_more f g (Rises rise) h = refl
change_more f g (Calls address) h = returned_more (f address) (g address) (h address)

from_more : (f g : ℕ → Depth) (to : Option ℕ) → AreBelow f g → IsBelow (rest_from f to) (rest_from g to)
from_more f g None h = refl
from_more f g (Some address) h = h address

along_more : (f g : ℕ → Depth) (way : Option Way) → AreBelow f g → IsBelow (rest_along f way) (rest_along g way)
along_more f g None h = tt
along_more f g (Some way) h = summed_more (change_by f way.change) (change_by g way.change) (rest_from f way.to) (rest_from g way.to)
    (change_more f g way.change h) (from_more f g way.to h)

pub rest_more : (f g : ℕ → Depth) (ways : Ways) → AreBelow f g → IsBelow (rest_by f ways) (rest_by g ways)
rest_more f g ways h = joined_more (rest_along f ways.first) (rest_along g ways.first) (rest_along f ways.second) (rest_along g ways.second)
    (along_more f g ways.first h) (along_more f g ways.second h)

pub depth_more : (rests : ℕ → Depth) (x y : Depth) (way : Option Way) → IsBelow x y → IsBelow (depth_along rests x way) (depth_along rests y way)
depth_more rests x y None h = tt
depth_more rests x y (Some way) h = summed_more x y (change_by rests way.change) (change_by rests way.change) h (below_self (change_by rests way.change))
