use Rattle.std.proofs.Common.{◌≡◌, drop}
use Rattle.std.specs.List.{find}
use Rattle.line_parts.specs.Lexemes.{lexemes}
use Rattle.lsp_answers.specs.Meanings.{is_told_on, token_on}
use Rattle.lsp_answers.proofs.meanings.token_on.Given as goal

abbrev pub invariant-loop-token : goal.invariant-loop-token
invariant-loop-token l = token_on l.profile l.column l.line ≡ find (is_told_on l.profile l.column) (lexemes (drop l.token-index l.token-items))
