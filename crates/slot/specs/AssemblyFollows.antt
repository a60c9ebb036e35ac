-- A slot follows what is written through a borrow of its assembly.
use base.Fml.{Fml}
use denote.Ref.{MutBor}
use denote.RattleType.{RattleType}
use denote.Follow.{follows}
use Rattle.std.specs.declared.option.Option.TheVariants.{Some}
use Rattle.assembler.specs.contracts.assembly.Assembly.{the_row as assembly_row}
use Rattle.slot.specs.contracts.assembly.AssemblySlot.{the_row as slot_row}

-- the slot s, where its assembly is w
abbrev pub with_assembly : slot_row.Denot → assembly_row.Denot → slot_row.Denot
with_assembly s w = record s { assembly = Some w }

-- once the borrow r ends, the slot behind b holds the last assembly written through r
abbrev pub slot_follows : MutBor slot_row.Denot → MutBor assembly_row.Denot → Fml
slot_follows b r = follows slot_row assembly_row b.ghost_name r.ghost_name (with_assembly b.now)
