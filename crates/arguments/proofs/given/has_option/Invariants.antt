use Rattle.std.proofs.Common.{◌≡◌, drop}
use Rattle.arguments.specs.Given.{has_option}
use Rattle.arguments.specs.Words.{texts}
use Rattle.arguments.proofs.given.has_option.Given as goal

abbrev pub invariant-loop-word : goal.invariant-loop-word
invariant-loop-word l = has_option l.name (texts (drop l.word-index l.words)) ≡ has_option l.name (texts l.words)
