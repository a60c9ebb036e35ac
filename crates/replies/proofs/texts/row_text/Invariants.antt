use Rattle.std.proofs.Common.{◌≡◌, ◌<◌, ◌+◌, ◌-◌, ◌*◌, ◌++◌, ◌∷◌, length}
use Rattle.model.specs.Text.{hex_address}
use Rattle.replies.proofs.Rows.{spaced_from}
use Rattle.replies.proofs.texts.row_text.Given as goal

abbrev pub invariant-loop-address : goal.invariant-loop-address
invariant-loop-address l = record {
  text : l.text.items ≡ hex_address l.first ++ 32 ∷ spaced_from l.session.current.bus.memory l.first (l.address - l.first);
  long : length l.text.items ≡ 5 + 3 * (l.address - l.first);
  none : l.last < l.first → l.address ≡ l.first;
}
