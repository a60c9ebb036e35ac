use Rattle.std.proofs.Common.{◌≡◌, ◌++◌, drop, map}
use Rattle.std.specs.Option.{option_to_list}
use Rattle.mon_line_parts.specs.Topics.{begun, common, row_view}
use Rattle.mon_line_parts.proofs.topic.begun.Given as goal

abbrev pub invariant-loop-word : goal.invariant-loop-word
invariant-loop-word l = record {
  rest : common (begun l.text (map row_view l.words)) ≡ common (option_to_list l.found ++ begun l.text (map row_view (drop l.word-index l.words)));
}
