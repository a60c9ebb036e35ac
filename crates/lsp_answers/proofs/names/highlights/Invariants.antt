use Rattle.std.proofs.Common.{map, take}
use Rattle.lsp_answers.specs.Names.{highlight_of}
use Rattle.lsp_answers.specs.Texts.{text_view}
use Rattle.json_messages.specs.ValueLists.{HasValues}
use Rattle.name_uses.specs.Views.{use_view}
use Rattle.lsp_answers.proofs.names.highlights.Given as goal

abbrev pub invariant-loop-one : goal.invariant-loop-one
invariant-loop-one l = HasValues (map (λ u. highlight_of (text_view l.text) (use_view u)) (take l.one-index l.one-items)) l.found
