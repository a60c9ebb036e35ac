use Rattle.std.proofs.Common.{map, take}
use Rattle.lsp_answers.specs.Marks.{mark_of}
use Rattle.lsp_answers.specs.Texts.{text_view}
use Rattle.json_messages.specs.ValueLists.{HasValues}
use Rattle.lsp_answers.proofs.marks.published.Given as goal

abbrev pub invariant-loop-one : goal.invariant-loop-one
invariant-loop-one l = HasValues (map (mark_of (text_view l.text)) (take l.one-index l.one-items)) l.values
