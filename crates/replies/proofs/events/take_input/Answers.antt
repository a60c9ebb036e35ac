use Rattle.std.proofs.Common.{sym}
use Rattle.replies.proofs.Inputs.{fits}
use Rattle.replies.proofs.events.take_input.Goals as goal

pub hand_in-requires : goal.hand_in-requires
hand_in-requires g c = fits _ _ (sym c.if-exceeds_room.ensures)
