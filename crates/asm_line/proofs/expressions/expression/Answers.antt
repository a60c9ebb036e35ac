use Rattle.std.proofs.Common.{◌∙◌, ap, sym, Some}
use Rattle.line_parts.specs.TermViews.{term_view}
use Rattle.asm_line.proofs.TokensLeft.{lexemes_after}
use Rattle.asm_line.proofs.expressions.expression.Goals as goal

pub returns : goal.returns
returns c =
    c.in_ok-value.ensures.found
    ∙ ap (λ ts. Some (term_view c.in_ok-value.value, ts)) (sym (lexemes_after c.in_ok-value.taken c.args.tokens.now))
