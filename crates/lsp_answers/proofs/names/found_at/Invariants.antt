use Rattle.std.proofs.Common.{map, take}
use Rattle.lsp_answers.specs.Texts.{text_view, use_range}
use Rattle.lsp_messages.specs.Values.{location_data}
use Rattle.json_messages.specs.ValueLists.{HasValues}
use Rattle.name_uses.specs.Views.{use_view}
use Rattle.lsp_answers.proofs.names.found_at.Given as goal

abbrev pub invariant-loop-one : goal.invariant-loop-one
invariant-loop-one l = HasValues (map (λ u. location_data l.uri (use_range (text_view l.text) (use_view u))) (take l.one-index l.one-items)) l.found
