use Rattle.std.proofs.Common.{◌≡◌, ◌≤◌, ◌++◌, drop, length}
use Rattle.line_parts.specs.Lexemes.{lexemes}
use Rattle.lsp_hints.proofs.PaintSteps.{tokens_left}
use Rattle.lsp_hints.specs.Painted.{code_end, starts_definition, tokens_paints}
use Rattle.model.specs.Token.{AreSlices}
use Rattle.lsp_hints.proofs.paint.push_parts.Given as goal

abbrev pub invariant-loop-token : goal.invariant-loop-token
invariant-loop-token l = record {
  painted : l.paints.items ++ tokens_left l.profile l.line l.defines l.tokens l.token-index
      ≡ l.fn.paints.items ++ tokens_paints l.profile l.line (starts_definition (lexemes l.tokens)) (lexemes l.tokens);
  end : code_end l.end (lexemes (drop l.token-index l.tokens)) ≡ code_end 0 (lexemes l.tokens);
  slices : AreSlices l.text l.end (lexemes (drop l.token-index l.tokens));
  within : l.end ≤ length l.text;
}
