use Rattle.std.proofs.Common.{◌≡◌, ◌++◌, map, drop}
use Rattle.word_debug.specs.Strict.{plain_words}
use Rattle.word_debug.proofs.Left.{left}
use Rattle.word_debug.proofs.asked.plain_words.Given as goal

abbrev pub invariant-loop-word : goal.invariant-loop-word
invariant-loop-word l = map (λ s. s.now) l.plain.items ++ left l.are_options (map (λ s. s.now) (drop l.word-index l.words))
    ≡ plain_words (map (λ s. s.now) l.words)
