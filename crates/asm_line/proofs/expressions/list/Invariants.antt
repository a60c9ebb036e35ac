use Rattle.std.proofs.Common.{◌≡◌, ◌-◌, ◌≤◌, drop, length}
use Rattle.std.specs.Prelude.{map}
use Rattle.line_parts.specs.Lexemes.{lexemes}
use Rattle.model.specs.SourceLine.{list_within}
use Rattle.asm_line.proofs.CommaLists.{before}
use Rattle.asm_line.proofs.expressions.list.Given as goal

abbrev pub invariant-loop : goal.invariant-loop
invariant-loop g l = record {
  read : before (map g.T.Element.view_as l.found.items) (list_within g.T.Element.element_of (l.end - l.counter) (drop l.at (lexemes l.tokens)))
      ≡ list_within g.T.Element.element_of (length l.tokens) (lexemes l.tokens);
  within : l.at ≤ length l.tokens;
}
