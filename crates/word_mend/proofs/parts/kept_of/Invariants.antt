use Rattle.std.proofs.Common.{◌≡◌, take}
use Rattle.std.specs.List.{filter}
use Rattle.word_mend.specs.Mending.{is_kept}
use Rattle.word_mend.proofs.parts.kept_of.Given as goal

abbrev pub invariant-loop-byte : goal.invariant-loop-byte
invariant-loop-byte l = l.kept.items ≡ filter is_kept (take l.byte-index l.text)
