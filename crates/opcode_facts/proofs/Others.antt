-- No flag but those that are named is changed.
use Rattle.std.proofs.Common.{◌≡◌, Bool, true, false, refl}
use Rattle.model.specs.Effect.{after_operation, load, regs_after_read, store, modify_a, modify_memory, modify_sum, regs_after_move, branch, branches, after_push, pull_a, pull_x, pull_y, pull_status, after_pull, call, return_from_call, return_from_interrupt, break_entry, interrupt_sequence}
use Rattle.model.specs.Operand.{is_accumulator}
use Rattle.model.specs.State.{State}
use Rattle.model.specs.declared.instruction.EffectiveAddress.{EffectiveAddress}
use Rattle.model.specs.declared.instruction.Mode.{Mode}
use Rattle.model.specs.declared.instruction.Profile.{Profile}
use Rattle.model.specs.declared.instruction.Profile.TheVariants.{N, C}
use Rattle.model.specs.declared.operation.Operation.{Operation}
use Rattle.model.specs.declared.operation.Operation.TheVariants as operation
use Rattle.model.specs.declared.operation.ReadOp.{ReadOp}
use Rattle.model.specs.declared.operation.ReadOp.TheVariants as read_op
use Rattle.model.specs.declared.operation.BranchOp.{BranchOp}
use Rattle.model.specs.declared.operation.ModifyOp.{ModifyOp}
use Rattle.model.specs.declared.operation.ModifyOp.TheVariants as modify_op
use Rattle.model.specs.declared.operation.RegisterOp.{RegisterOp}
use Rattle.model.specs.declared.operation.RegisterOp.TheVariants as register_op
use Rattle.opcode_facts.specs.Changed.{KeepsOthers, changed_by}

by_read : (op : ReadOp) (profile : Profile) (mode : Mode) (place : EffectiveAddress) (state : State)
    → KeepsOthers (changed_by profile (operation.Read op)) (operation.Read op) mode place state
unfolding after_operation load regs_after_read
by_read read_op.Ora profile mode place state = refl
by_read read_op.And profile mode place state = refl
by_read read_op.Eor profile mode place state = refl
by_read read_op.Adc profile mode place state = refl
by_read read_op.Lda profile mode place state = refl
by_read read_op.Cmp profile mode place state = refl
by_read read_op.Sbc profile mode place state = refl
by_read read_op.Ldx profile mode place state = refl
by_read read_op.Ldy profile mode place state = refl
by_read read_op.Cpx profile mode place state = refl
by_read read_op.Cpy profile mode place state = refl
by_read read_op.Bit profile mode place state = refl

by_modify : (op : ModifyOp) (profile : Profile) (mode : Mode) (place : EffectiveAddress) (state : State) (in_a : Bool) → is_accumulator mode ≡ in_a
    → KeepsOthers (changed_by profile (operation.Modify op)) (operation.Modify op) mode place state
unfolding after_operation modify_a modify_memory modify_sum
by_modify modify_op.Asl profile mode place state true is = rw is refl
by_modify modify_op.Asl profile mode place state false is = rw is refl
by_modify modify_op.Rol profile mode place state true is = rw is refl
by_modify modify_op.Rol profile mode place state false is = rw is refl
by_modify modify_op.Lsr profile mode place state true is = rw is refl
by_modify modify_op.Lsr profile mode place state false is = rw is refl
by_modify modify_op.Ror profile mode place state true is = rw is refl
by_modify modify_op.Ror profile mode place state false is = rw is refl
by_modify modify_op.Dec profile mode place state true is = rw is refl
by_modify modify_op.Dec profile mode place state false is = rw is refl
by_modify modify_op.Inc profile mode place state true is = rw is refl
by_modify modify_op.Inc profile mode place state false is = rw is refl

by_move : (op : RegisterOp) (profile : Profile) (mode : Mode) (place : EffectiveAddress) (state : State)
    → KeepsOthers (changed_by profile (operation.Register op)) (operation.Register op) mode place state
unfolding after_operation regs_after_move
by_move register_op.Clc profile mode place state = refl
by_move register_op.Sec profile mode place state = refl
by_move register_op.Cli profile mode place state = refl
by_move register_op.Sei profile mode place state = refl
by_move register_op.Clv profile mode place state = refl
by_move register_op.Cld profile mode place state = refl
by_move register_op.Sed profile mode place state = refl
by_move register_op.Txa profile mode place state = refl
by_move register_op.Tya profile mode place state = refl
by_move register_op.Txs profile mode place state = refl
by_move register_op.Tay profile mode place state = refl
by_move register_op.Tax profile mode place state = refl
by_move register_op.Tsx profile mode place state = refl
by_move register_op.Dey profile mode place state = refl
by_move register_op.Dex profile mode place state = refl
by_move register_op.Iny profile mode place state = refl
by_move register_op.Inx profile mode place state = refl
by_move register_op.Nop profile mode place state = refl

by_branch : (op : BranchOp) (profile : Profile) (mode : Mode) (place : EffectiveAddress) (state : State) (is_taken : Bool)
    → branches op state.regs.flags ≡ is_taken
    → KeepsOthers (changed_by profile (operation.Branch op)) (operation.Branch op) mode place state
unfolding after_operation branch
by_branch op profile mode place state true is = rw is refl
by_branch op profile mode place state false is = rw is refl

by_break : (profile : Profile) (mode : Mode) (place : EffectiveAddress) (state : State) → state.bus.map.profile ≡ profile
    → KeepsOthers (changed_by profile operation.Break) operation.Break mode place state
unfolding after_operation break_entry interrupt_sequence after_push
by_break N mode place state is = rw is refl
by_break C mode place state is = rw is refl

-- an operation changes no flag but those that are named
pub keeps_others : (profile : Profile) (op : Operation) (mode : Mode) (place : EffectiveAddress) (state : State)
    → state.bus.map.profile ≡ profile → KeepsOthers (changed_by profile op) op mode place state
unfolding after_operation store after_push pull_a pull_x pull_y pull_status after_pull call return_from_call return_from_interrupt
keeps_others profile (operation.Read op) mode place state is = by_read op profile mode place state
keeps_others profile (operation.Store op) mode place state is = refl
keeps_others profile (operation.Modify op) mode place state is = by_modify op profile mode place state (is_accumulator mode) refl
keeps_others profile (operation.Register op) mode place state is = by_move op profile mode place state
keeps_others profile (operation.Branch op) mode place state is = by_branch op profile mode place state (branches op state.regs.flags) refl
keeps_others profile operation.PushA mode place state is = refl
keeps_others profile operation.PushX mode place state is = refl
keeps_others profile operation.PushY mode place state is = refl
keeps_others profile operation.PushStatus mode place state is = refl
keeps_others profile operation.PullA mode place state is = refl
keeps_others profile operation.PullX mode place state is = refl
keeps_others profile operation.PullY mode place state is = refl
keeps_others profile operation.PullStatus mode place state is = refl
keeps_others profile operation.Jump mode place state is = refl
keeps_others profile operation.Call mode place state is = refl
keeps_others profile operation.Return mode place state is = refl
keeps_others profile operation.ReturnInterrupt mode place state is = refl
keeps_others profile operation.Break mode place state is = by_break profile mode place state is
