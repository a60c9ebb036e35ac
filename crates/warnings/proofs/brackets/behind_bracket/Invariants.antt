use Rattle.std.proofs.Common.{◌≡◌, ◌+◌, ◌<◌, ◌≤◌, drop, length}
use Rattle.line_parts.specs.Lexemes.{lexemes}
use Rattle.warnings.specs.Brackets.{behind_brackets}
use Rattle.warnings.proofs.brackets.behind_bracket.Given as goal

abbrev pub invariant-loop-at : goal.invariant-loop-at
invariant-loop-at l = record {
  exact : behind_brackets l.depth (lexemes (drop l.at l.tokens)) ≡ behind_brackets 1 (lexemes l.tokens);
  some : 0 < l.depth;
  few : l.depth ≤ l.at + 1;
  inside : l.at ≤ length l.tokens;
}
