-- The ranges and the largest gap as the code finds them.
use Rattle.std.specs.Prelude.{ℕ, ◌+◌, ◌==◌, if◌then◌else◌, List, [], ◌∷◌, Option, Some, None}
use Rattle.word_info.specs.Facts.{gap_between, gaps_after, gaps_of, larger_gap}
use Rattle.word_info.specs.declared.ranges.Range.{Range}
use Rattle.word_info.specs.declared.gaps.Gap.{Gap}

-- an address alone
abbrev pub one_address : ℕ → Range
one_address address = record { first = address; last = address }

-- an address before ranges: it begins the first of them if that begins right after it
abbrev pub before_ranges : ℕ → List Range → List Range
before_ranges address [] = one_address address ∷ []
before_ranges address (next ∷ ranges) = if next.first == address + 1
    then record { first = address; last = next.last } ∷ ranges
    else one_address address ∷ next ∷ ranges

-- the ranges from the address of a cell on
abbrev pub with_cell : ℕ → Option ℕ → List Range → List Range
with_cell address None ranges = ranges
with_cell address (Some b) ranges = before_ranges address ranges

-- the larger of a gap and that before a range
abbrev pub with_gap : Option Gap → Option ℕ → Range → Option Gap
with_gap best None high = best
with_gap best (Some last) high = larger_gap best (gap_between last high)

-- the gaps that are left
abbrev pub gaps_left : Option ℕ → List Range → List Gap
gaps_left None ranges = gaps_of ranges
gaps_left (Some last) ranges = gaps_after last ranges
