use Rattle.replies.proofs.Inputs.{exceeds}
use Rattle.replies.proofs.events.exceeds_room.Goals as goal

pub returns : goal.returns
returns c = exceeds c.input_room.result _ _ c.input_room.ensures
