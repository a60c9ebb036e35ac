use Rattle.std.proofs.Common.{◌≡◌, ◌++◌, map, string_bytes, take}
use Rattle.arguments.specs.Words.{texts}
use Rattle.debug_images.proofs.words.push_words.Given as goal

abbrev pub invariant-loop-word : goal.invariant-loop-word
invariant-loop-word l = record {
  made : map string_bytes l.words.items ≡ map string_bytes l.fn.words.items ++ texts (take l.word-index l.more);
}
