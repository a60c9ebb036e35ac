use Rattle.std.proofs.Common.{◌≡◌, ◌++◌, drop}
use Rattle.std.specs.List.{flat_map}
use Rattle.mon_texts.specs.Help.{form_row}
use Rattle.mon_texts.proofs.help.push_forms.Given as goal

abbrev pub invariant-loop-topic : goal.invariant-loop-topic
invariant-loop-topic l = l.text.items ++ flat_map form_row (drop l.topic-index l.topics) ≡ l.initial.text.items ++ flat_map form_row l.topics
