use Rattle.std.proofs.Common.{◌≡◌, ◌++◌}
use Rattle.word_asm.specs.Texts.{symbols_text}
use Rattle.word_asm.proofs.Rows.{names_left}
use Rattle.word_asm.proofs.names.symbols_text.Given as goal

abbrev pub invariant-loop-index : goal.invariant-loop-index
invariant-loop-index l = l.out.items ++ names_left l.format l.names l.index ≡ symbols_text l.format l.names
