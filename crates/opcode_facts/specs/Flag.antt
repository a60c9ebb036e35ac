-- One flag of the status register. Source: MCS6500 manual, chapter 3.
use Rattle.std.specs.Prelude.{ℕ, Bool, List, codes}
use Rattle.model.specs.declared.registers.Flags.{Flags}
use Rattle.opcode_facts.specs.declared.flag.Flag.{Flag}
use Rattle.opcode_facts.specs.declared.flag.Flag.TheVariants.{N, V, D, I, Z, C}

-- Whether a flag is 1.
abbrev pub has_flag : Flag → Flags → Bool
has_flag N flags = flags.n
has_flag V flags = flags.v
has_flag D flags = flags.d
has_flag I flags = flags.i
has_flag Z flags = flags.z
has_flag C flags = flags.c

-- Flags of which one has a value, and the others what they had.
abbrev pub with_flag : Flag → Bool → Flags → Flags
with_flag N value flags = record flags { n = value }
with_flag V value flags = record flags { v = value }
with_flag D value flags = record flags { d = value }
with_flag I value flags = record flags { i = value }
with_flag Z value flags = record flags { z = value }
with_flag C value flags = record flags { c = value }

abbrev pub flag_letter : Flag → List ℕ
flag_letter N = codes "N"
flag_letter V = codes "V"
flag_letter D = codes "D"
flag_letter I = codes "I"
flag_letter Z = codes "Z"
flag_letter C = codes "C"
