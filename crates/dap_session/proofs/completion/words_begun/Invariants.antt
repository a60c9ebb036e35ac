use Rattle.std.proofs.Common.{◌≡◌, ◌++◌, List, map}
use Rattle.std.specs.List.{flat_map}
use Rattle.dap_messages.specs.SeenAnswers.{SeenItem}
use Rattle.dap_session.proofs.Begun.{coming}
use Rattle.dap_session.specs.Completions.{word_begun}
use Rattle.dap_messages.specs.ItemLists.{HasItems}
use Rattle.mon_line_parts.specs.Topics.{row_view}
use Rattle.dap_session.proofs.completion.words_begun.Given as goal

abbrev pub invariant-loop-word : goal.invariant-loop-word
invariant-loop-word l = (found : List SeenItem) × HasItems found l.list
    × (found ++ coming (word_begun l.start l.typed) row_view l.rows l.word-index ≡ flat_map (word_begun l.start l.typed) (map row_view l.rows))
