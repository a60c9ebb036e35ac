-- Marks below the registers and flags that have changed. Source: mos65.
use Rattle.std.specs.Prelude.{ℕ, ◌==◌, Bool, true, false, if◌then◌else◌, List, ◌∷◌, ◌++◌, [], codes}
use Rattle.model.specs.declared.registers.Flags.{Flags}
use Rattle.model.specs.declared.registers.Regs.{Regs}
use Rattle.mon_screen.specs.declared.wording.TheConstants.{CHANGED, SAME}

abbrev pub register_mark : ℕ → ℕ → List ℕ
register_mark before now = if before == now then SAME.now else CHANGED.now

-- `^` below a flag that has changed.
abbrev pub flag_mark : Bool → Bool → ℕ
flag_mark true true = 32
flag_mark false false = 32
flag_mark before now = 94

-- A mark for each letter of `nv-bdizc`.
abbrev pub flag_marks : Flags → Flags → List ℕ
flag_marks before now = flag_mark before.n now.n ∷ flag_mark before.v now.v ∷ 32 ∷ 32
    ∷ flag_mark before.d now.d ∷ flag_mark before.i now.i ∷ flag_mark before.z now.z
    ∷ flag_mark before.c now.c ∷ []

-- The line below that of the registers: `  ^^                       ^`.
unfoldable pub marks_line : Regs → Regs → List ℕ
marks_line before now = register_mark before.a now.a ++ register_mark before.x now.x
    ++ register_mark before.y now.y ++ register_mark before.s now.s ++ codes " "
    ++ flag_marks before.flags now.flags ++ codes "\n"
