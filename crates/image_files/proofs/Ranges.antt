-- From the first byte of an image to the last.
use Rattle.std.proofs.Common.{◌≡◌, ◌<◌, ◌≤◌, ℕ, true, List, Option, None, Some, is_some, arith, inl, inr, sym, ap, ◌∙◌}
use Rattle.std.proofs.lemmas.Bool.{cases_lt}
use Rattle.image_writer.specs.Window.{IsFirst, IsLast}

not_none : (cell : Option ℕ) → is_some cell ≡ true → cell ≡ None → ⊥
not_none None some none = absurd cc
not_none (Some b) some none = absurd cc

pub ends_in_order : (image : List (Option ℕ)) (low high : ℕ) → IsFirst image (Some low) → IsLast image (Some high) → low ≤ high
ends_in_order image low high first last = elim (cases_lt high low) [
  | inl below ↦ absurd (not_none _ last.1 (first.1 high below))
  | inr le ↦ le
]

pub has_last : (image : List (Option ℕ)) (low : ℕ) → low < 65536 → IsFirst image (Some low) → IsLast image None → ⊥
has_last image low small first last = not_none _ first.0 (last low small)
