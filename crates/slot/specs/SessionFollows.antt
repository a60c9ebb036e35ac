-- A slot follows what is written through a borrow of its session.
use base.Fml.{Fml}
use denote.Ref.{MutBor}
use denote.RattleType.{RattleType}
use denote.Follow.{follows}
use Rattle.std.specs.declared.option.Option.TheVariants.{Some}
use Rattle.debugger.specs.contracts.session.Session.{the_row as session_row}
use Rattle.slot.specs.contracts.session.SessionSlot.{the_row as slot_row}

-- the slot s, where its session is w
abbrev pub with_session : slot_row.Denot → session_row.Denot → slot_row.Denot
with_session s w = record s { session = Some w }

-- once the borrow r ends, the slot behind b holds the last session written through r
abbrev pub slot_follows : MutBor slot_row.Denot → MutBor session_row.Denot → Fml
slot_follows b r = follows slot_row session_row b.ghost_name r.ghost_name (with_session b.now)
