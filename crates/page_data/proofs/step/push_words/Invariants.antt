use Rattle.std.proofs.Common.{◌≡◌, ◌++◌, take}
use Rattle.std.specs.List.{flat_map}
use Rattle.page_data.specs.Format.{word}
use Rattle.page_data.proofs.step.push_words.Given as goal

abbrev pub invariant-loop-address : goal.invariant-loop-address
invariant-loop-address l = l.written.items ≡ l.initial.written.items ++ flat_map word (take l.address-index l.addresses)
