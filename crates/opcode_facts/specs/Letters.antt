-- Flags as letters. Source: mos65.
use Rattle.std.specs.Prelude.{ℕ, ◌||◌, if◌then◌else◌, Bool, List, [], ◌∷◌, ◌++◌}
use Rattle.model.specs.declared.registers.Flags.{Flags}
use Rattle.opcode_facts.specs.Flag.{flag_letter, has_flag}
use Rattle.opcode_facts.specs.declared.flag.Flag.{Flag}
use Rattle.opcode_facts.specs.declared.flag.Flag.TheVariants.{N, V, D, I, Z, C}

abbrev pub flag_text : Flags → Flag → List ℕ
flag_text flags flag = if has_flag flag flags then 32 ∷ flag_letter flag else []

-- The letters of the flags that are set, each behind a blank.
abbrev pub flags_text : Flags → List ℕ
flags_text flags = flag_text flags N ++ flag_text flags V ++ flag_text flags D ++ flag_text flags I
    ++ flag_text flags Z ++ flag_text flags C

abbrev pub is_any : Flags → Bool
is_any flags = flags.n || flags.v || flags.d || flags.i || flags.z || flags.c
