-- What lines do that set a flag. Source: mos65; the flags and P, MCS6500 manual, chapter 3.
use Rattle.std.specs.Prelude.{Bool, false}
use Rattle.model.specs.Effect.{status}
use Rattle.model.specs.State.{State}
use Rattle.model.specs.declared.event.Setting.{Setting}
use Rattle.model.specs.declared.event.Setting.TheVariants as setting
use Rattle.opcode_facts.specs.Flag.{with_flag}
use Rattle.opcode_facts.specs.declared.flag.Flag.{Flag}

-- A flag is set by setting P to what it is with that flag.
abbrev pub flag_setting : Flag → Bool → State → Setting
flag_setting flag value state = setting.P (status false (with_flag flag value state.regs.flags))
