use Rattle.std.proofs.Common.{◌≡◌, map, drop}
use Rattle.word_debug.specs.Strict.{is_strict}
use Rattle.word_debug.proofs.asked.is_strict.Given as goal

abbrev pub invariant-loop-word : goal.invariant-loop-word
invariant-loop-word l = is_strict (map (λ s. s.now) (drop l.word-index l.words)) ≡ is_strict (map (λ s. s.now) l.words)
