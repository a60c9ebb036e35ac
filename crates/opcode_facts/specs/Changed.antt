-- The flags that an instruction may change. Source: mos65; that it changes no other is proved of
-- what the instruction does.
use Rattle.std.specs.Prelude.{◌≡◌, Bool, true, false, if◌then◌else◌}
use Rattle.model.specs.Effect.{after_operation}
use Rattle.model.specs.State.{State}
use Rattle.model.specs.declared.instruction.EffectiveAddress.{EffectiveAddress}
use Rattle.model.specs.declared.instruction.Mode.{Mode}
use Rattle.model.specs.declared.instruction.Profile.{Profile}
use Rattle.model.specs.declared.instruction.Profile.TheVariants.{N, C}
use Rattle.model.specs.declared.operation.Operation.{Operation}
use Rattle.model.specs.declared.operation.Operation.TheVariants as operation
use Rattle.model.specs.declared.operation.ReadOp.{ReadOp}
use Rattle.model.specs.declared.operation.ReadOp.TheVariants as read_op
use Rattle.model.specs.declared.operation.ModifyOp.{ModifyOp}
use Rattle.model.specs.declared.operation.ModifyOp.TheVariants as modify_op
use Rattle.model.specs.declared.operation.RegisterOp.{RegisterOp}
use Rattle.model.specs.declared.operation.RegisterOp.TheVariants as register_op
use Rattle.model.specs.declared.registers.Flags.{Flags}

-- N and Z, and V and C if they are changed.
abbrev pub of_result : Bool → Bool → Flags
of_result v c = record { n = true; v = v; d = false; i = false; z = true; c = c }

-- Those of V, D, I and C that are changed.
abbrev pub of_setting : Bool → Bool → Bool → Bool → Flags
of_setting v d i c = record { n = false; v = v; d = d; i = i; z = false; c = c }

abbrev pub no_flag : Flags
no_flag = of_setting false false false false

abbrev pub all_flags : Flags
all_flags = record { n = true; v = true; d = true; i = true; z = true; c = true }

abbrev pub changed_by_read : ReadOp → Flags
changed_by_read read_op.Adc = of_result true true
changed_by_read read_op.Sbc = of_result true true
changed_by_read read_op.Bit = of_result true false
changed_by_read read_op.Cmp = of_result false true
changed_by_read read_op.Cpx = of_result false true
changed_by_read read_op.Cpy = of_result false true
changed_by_read _ = of_result false false

abbrev pub changed_by_modify : ModifyOp → Flags
changed_by_modify modify_op.Dec = of_result false false
changed_by_modify modify_op.Inc = of_result false false
changed_by_modify _ = of_result false true

abbrev pub changed_by_move : RegisterOp → Flags
changed_by_move register_op.Clc = of_setting false false false true
changed_by_move register_op.Sec = of_setting false false false true
changed_by_move register_op.Cli = of_setting false false true false
changed_by_move register_op.Sei = of_setting false false true false
changed_by_move register_op.Clv = of_setting true false false false
changed_by_move register_op.Cld = of_setting false true false false
changed_by_move register_op.Sed = of_setting false true false false
changed_by_move register_op.Txs = no_flag
changed_by_move register_op.Nop = no_flag
changed_by_move _ = of_result false false

-- BRK sets I, and clears D in profile C.
abbrev pub changed_by_break : Profile → Flags
changed_by_break N = of_setting false false true false
changed_by_break C = of_setting false true true false

-- The flags that an operation may change.
abbrev pub changed_by : Profile → Operation → Flags
changed_by profile (operation.Read op) = changed_by_read op
changed_by profile (operation.Modify op) = changed_by_modify op
changed_by profile (operation.Register op) = changed_by_move op
changed_by profile operation.PullA = of_result false false
changed_by profile operation.PullX = of_result false false
changed_by profile operation.PullY = of_result false false
changed_by profile operation.PullStatus = all_flags
changed_by profile operation.ReturnInterrupt = all_flags
changed_by profile operation.Break = changed_by_break profile
changed_by profile _ = no_flag

-- ---- the others

-- The flags of a state, but for those that may be others after it.
abbrev pub but_for : Flags → Flags → Flags → Flags
but_for changed before after = record {
  n = if changed.n then after.n else before.n;
  v = if changed.v then after.v else before.v;
  d = if changed.d then after.d else before.d;
  i = if changed.i then after.i else before.i;
  z = if changed.z then after.z else before.z;
  c = if changed.c then after.c else before.c;
}

-- An operation changes no flag but these.
abbrev pub KeepsOthers : Flags → Operation → Mode → EffectiveAddress → State → Type 0
KeepsOthers changed op mode place state = (after_operation op mode place state).regs.flags
    ≡ but_for changed state.regs.flags (after_operation op mode place state).regs.flags
