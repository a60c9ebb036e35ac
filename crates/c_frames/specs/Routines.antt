-- What routines of cc65's runtime and library do to the software stack pointer. Source: cc65 2.19,
-- `libsrc`.
use Rattle.std.specs.Prelude.{ℕ, ◌+◌, ◌-◌, ◌%◌, ◌==◌, if◌then◌else◌, List, [], ◌∷◌, Option, Some, None}
use Rattle.c_frames.specs.declared.rises.Rise.{Rise}
use Rattle.c_frames.specs.declared.routines.Effect.{Effect}
use Rattle.c_frames.specs.declared.routines.Effect.TheVariants.{Adds, Takes, Pushes, Enter, AddsY, SubtractsY}
use Rattle.c_frames.specs.declared.routines.Routine.{Routine}

-- Of routines at one address the first counts.
abbrev pub effect_at : List Routine → ℕ → Option Effect
effect_at [] address = None
effect_at (routine ∷ routines) address = if routine.address == address then Some routine.effect
    else effect_at routines address

abbrev pub added : ℕ → Rise
added number = record { sp = number; s = 0 }

abbrev pub taken : ℕ → Rise
taken number = added ((65536 - number) % 65536)

-- What is the same at each call.
abbrev pub fixed_rise : Effect → Option Rise
fixed_rise (Adds number) = Some (added number)
fixed_rise (Takes number) = Some (taken number)
fixed_rise (Pushes number) = Some (taken number)
fixed_rise Enter = Some (taken 1)
fixed_rise (AddsY more) = None
fixed_rise SubtractsY = None

-- What goes by Y.
abbrev pub rise_by_y : Effect → ℕ → Option Rise
rise_by_y (Adds number) y = None
rise_by_y (Takes number) y = None
rise_by_y (Pushes number) y = None
rise_by_y Enter y = None
rise_by_y (AddsY more) y = Some (added (y + more))
rise_by_y SubtractsY y = Some (taken y)
