use Rattle.std.proofs.Common.{◌≡◌, drop, false}
use Rattle.name_uses.specs.Faulty.{has_word}
use Rattle.name_uses.proofs.faulty.has_word.Given as goal

abbrev pub invariant-loop-index : goal.invariant-loop-index
invariant-loop-index l = has_word l.word false l.line ≡ has_word l.word l.behind (drop l.index l.line)
