use Rattle.std.proofs.Common.{◌≡◌, ◌≤◌, ◌-◌, length, drop}
use Rattle.model.specs.Token.{tokens_from}
use Rattle.line_parts.specs.Lexemes.{lexemes}
use Rattle.lexer.specs.Lexing.{then_tokens}
use Rattle.lexer.proofs.lexer.find_tokens.Given as goal

abbrev pub invariant-loop-start : goal.invariant-loop-start
invariant-loop-start l = record {
  inside : l.start ≤ length l.line;
  same : then_tokens (lexemes l.found.items) (tokens_from l.start 0 (drop l.start l.line)) ≡ tokens_from 0 0 l.line;
}

abbrev pub decreases-loop-start : goal.decreases-loop-start
decreases-loop-start l = length l.line - l.start
