-- The way over the lines of a listing.
use Rattle.std.proofs.Common.{◌≡◌, ℕ, ◌+◌, List, [], ◌∷◌, length, refl, ap, arith, Result, Ok, Err}
use Rattle.model.specs.TextLines.{lines_from, lines_of}
use Rattle.debug_listings.specs.Reading.{Reading}
use Rattle.debug_listings.specs.Texts.{lines_read, with_text}
use Rattle.debug_records.specs.Faults.{◌>>=◌}
use Rattle.debug_records.specs.Reading.{in_line, place_of}
use Rattle.debug_records.specs.declared.fault.DebugFault.{DebugFault}

pub line_more : (number : ℕ) (line : List ℕ) (lines : List (List ℕ)) (r more : Reading) → in_line (place_of number line) (with_text line r) ≡ Ok more
    → lines_read number (line ∷ lines) r ≡ lines_read (number + 1) lines more
unfolding lines_read
line_more number line lines r more k = ap (λ (read : Result Reading DebugFault). read >>= lines_read (number + 1) lines) k

pub line_refused : (number : ℕ) (line : List ℕ) (lines : List (List ℕ)) (r : Reading) (fault : DebugFault)
    → in_line (place_of number line) (with_text line r) ≡ Err fault
    → lines_read number (line ∷ lines) r ≡ Err fault
unfolding lines_read
line_refused number line lines r fault k = ap (λ (read : Result Reading DebugFault). read >>= lines_read (number + 1) lines) k

pub no_line_left : (number : ℕ) (text : List ℕ) (r : Reading) → length text ≡ 0 → lines_read number (lines_of text) r ≡ Ok r
unfolding lines_read lines_from
no_line_left number [] r h = refl
no_line_left number (b ∷ text) r h = absurd (omega arith)
