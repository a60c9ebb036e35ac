use Rattle.std.proofs.Common.{map, take}
use Rattle.json_messages.specs.Values.{word}
use Rattle.json_messages.specs.ValueLists.{HasValues}
use Rattle.word_lsp.proofs.capabilities.words.Given as goal

abbrev pub invariant-loop-text : goal.invariant-loop-text
invariant-loop-text l = HasValues (map (λ s. word s.now) (take l.text-index l.texts)) l.list
