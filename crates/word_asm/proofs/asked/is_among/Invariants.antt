use Rattle.std.proofs.Common.{◌≡◌, drop, map}
use Rattle.std.specs.Prelude.{option_map}
use Rattle.word_asm.specs.Asked.{is_among}
use Rattle.word_asm.proofs.asked.is_among.Given as goal

abbrev pub invariant-loop-file : goal.invariant-loop-file
invariant-loop-file l = is_among l.name (map (option_map (λ s. s.now)) (drop l.file-index l.files)) ≡ is_among l.name (map (option_map (λ s. s.now)) l.files)
