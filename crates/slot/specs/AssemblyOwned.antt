-- What a slot owns.
use base.Fml.{Fml, ftrue}
use denote.RawPtr.{Ptr}
use Rattle.std.specs.Prelude.{Option}
use Rattle.std.specs.declared.option.Option.TheVariants.{None, Some}
use Rattle.std.specs.Box.Ownership.{box_owns}
use Rattle.std.specs.declared.alloc.Global.{Global}
use Rattle.std.specs.contracts.impls.GlobalAllocator.TheImpl.{ghosts}
use Rattle.assembler.specs.contracts.assembly.Assembly.{the_row}

-- nothing, or the assembly at p and the right to free its block
unfoldable pub slot_owns : Global → Ptr → Option the_row.Denot → Fml
slot_owns alloc p None = ftrue
slot_owns alloc p (Some x) = box_owns (ghosts.dealloc_token alloc) the_row p x
