use Rattle.std.proofs.Common.{◌≡◌, drop, map}
use Rattle.mon_line_parts.specs.Topics.{row_view, whole}
use Rattle.mon_line_parts.proofs.topic.whole.Given as goal

abbrev pub invariant-loop-word : goal.invariant-loop-word
invariant-loop-word l = record {
  rest : whole l.text (map row_view l.words) ≡ whole l.text (map row_view (drop l.word-index l.words));
}
