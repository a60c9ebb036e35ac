use Rattle.std.proofs.Common.{◌≡◌, map, string_bytes, take}
use Rattle.arguments.specs.Words.{texts}
use Rattle.program.proofs.process.words_of.Given as goal

abbrev pub invariant-loop-word : goal.invariant-loop-word
invariant-loop-word l = record {
  made : texts l.all.items ≡ map string_bytes (take l.word-index l.words);
}
