-- How far the stack pointers have gone up, and what is known of it: nothing, one rise, or two that
-- differ. Source: mos65.
use Rattle.std.specs.Prelude.{◌≡◌, ◌+◌, ◌%◌, ◌==◌, ◌&&◌, Bool, if◌then◌else◌, ⊤}
use Rattle.c_frames.specs.declared.rises.Rise.{Rise}
use Rattle.c_frames.specs.declared.rises.Depth.{Depth}
use Rattle.c_frames.specs.declared.rises.Depth.TheVariants.{Unknown, Known, Differing}

abbrev pub no_rise : Rise
no_rise = record { sp = 0; s = 0 }

-- One rise and then another.
abbrev pub risen : Rise → Rise → Rise
risen first second = record { sp = (first.sp + second.sp) % 65536; s = (first.s + second.s) % 256 }

abbrev pub same : Rise → Rise → Bool
same first second = first.sp == second.sp && first.s == second.s

-- What is known of one rise and then another.
abbrev pub summed : Depth → Depth → Depth
summed Unknown y = Unknown
summed (Known a) Unknown = Unknown
summed (Known a) (Known b) = Known (risen a b)
summed (Known a) Differing = Differing
summed Differing Unknown = Unknown
summed Differing (Known b) = Differing
summed Differing Differing = Differing

-- What is known where two ways come together.
abbrev pub joined : Depth → Depth → Depth
joined Unknown y = y
joined (Known a) Unknown = Known a
joined (Known a) (Known b) = if same a b then Known a else Differing
joined (Known a) Differing = Differing
joined Differing y = Differing

-- Less is known, or the same.
abbrev pub IsBelow : Depth → Depth → Type 0
IsBelow Unknown y = ⊤
IsBelow (Known a) Unknown = ⊥
IsBelow (Known a) (Known b) = a ≡ b
IsBelow (Known a) Differing = ⊤
IsBelow Differing Unknown = ⊥
IsBelow Differing (Known b) = ⊥
IsBelow Differing Differing = ⊤
