use Rattle.std.proofs.Common.{◌≡◌, ◌-◌, ◌*◌, length}
use Rattle.replies.proofs.Rows.{digits_from}
use Rattle.replies.proofs.texts.output_row_text.Given as goal

abbrev pub invariant-loop-index : goal.invariant-loop-index
invariant-loop-index l = record {
  text : l.text.items ≡ digits_from l.session.current.bus.out l.from (l.index - l.from);
  long : length l.text.items ≡ 2 * (l.index - l.from);
}
