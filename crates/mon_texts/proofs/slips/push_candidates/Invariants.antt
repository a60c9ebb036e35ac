use Rattle.std.proofs.Common.{◌≡◌, ◌++◌, drop, map}
use Rattle.mon_line_parts.specs.Topics.{row_view}
use Rattle.mon_texts.specs.Slips.{candidates}
use Rattle.mon_texts.proofs.slips.push_candidates.Given as goal

abbrev pub invariant-loop-word : goal.invariant-loop-word
invariant-loop-word l = l.text.items ++ candidates l.piece (map row_view (drop l.word-index l.rows)) ≡ l.initial.text.items
    ++ candidates l.piece (map row_view l.rows)
