-- Which numbers have a property. Source: mos65.
use Rattle.std.specs.Prelude.{ℕ, zero, suc, ◌||◌, Bool, false, if◌then◌else◌, Option, Some, None, unwrap_or}
use Rattle.std.specs.Option.{option_or}

-- Whether a number below n has a property.
unfoldable pub any_below : ℕ → (ℕ → Bool) → Bool
any_below zero has = false
any_below (suc n) has = any_below n has || has n

-- The first of the numbers 1 to n that has a property.
unfoldable pub first_to : ℕ → (ℕ → Bool) → Option ℕ
first_to zero has = None
first_to (suc n) has = option_or (first_to n has) (if has (suc n) then Some (suc n) else None)

-- The same, and n if none has it.
abbrev pub first_or_last : ℕ → (ℕ → Bool) → ℕ
first_or_last n has = unwrap_or (first_to n has) n
