use Rattle.std.proofs.Common.{◌≡◌, ◌++◌, take}
use Rattle.std.specs.Prelude.{encode_utf8_all, string_bytes}
use Rattle.tape_words.proofs.instruction.push_characters.Given as goal

abbrev pub invariant-loop-byte : goal.invariant-loop-byte
invariant-loop-byte l = string_bytes l.words ≡ string_bytes l.initial.words ++ encode_utf8_all (take l.byte-index l.text)
