use Rattle.std.proofs.Common.{◌≡◌, ◌+◌, length, map}
use Rattle.std.specs.Prelude.{option_map}
use Rattle.word_asm.specs.Asked.{has_twice}
use Rattle.word_asm.proofs.asked.has_twice.Given as goal

abbrev pub invariant-loop-seen : goal.invariant-loop-seen
invariant-loop-seen l = record {
  same : has_twice (map (option_map (λ s. s.now)) l.rest) ≡ has_twice (map (option_map (λ s. s.now)) l.files);
  size : length l.rest + l.seen ≡ length l.files;
}
