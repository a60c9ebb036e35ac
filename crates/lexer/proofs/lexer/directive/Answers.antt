use Rattle.std.proofs.Common.{◌∙◌, ap}
use Rattle.std.specs.List.{prefix_len}
use Rattle.model.specs.Token.{is_letter}
use Rattle.lexer.proofs.Runs.{from, directive_is}
use Rattle.lexer.proofs.lexer.directive.Goals as goal

pub returns : goal.returns
returns c =
    directive_is c.args.bytes.now c.letter_run-letters.result c.requires
    (c.letter_run-letters.ensures.counted ∙ ap (prefix_len is_letter) (from 1 c.args.bytes.now)) c.if-letters-eq0.false
