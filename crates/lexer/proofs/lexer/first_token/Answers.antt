use Rattle.std.proofs.Common.{◌∙◌, ◌∷◌, sym, ap}
use Rattle.lexer.proofs.Runs.{token_decimal, token_hex, token_binary}
use Rattle.lexer.proofs.lexer.first_token.Goals as goal

pub returns-then-may_begin_decimal : goal.returns-then-may_begin_decimal
returns-then-may_begin_decimal c =
    c.number.ensures
    ∙ token_decimal c.args.bytes.now c.in_ok-first.rest.now c.in_ok-first.first.now c.digit_run.result c.in_ok-first.ensures.cases.0
    (sym c.may_begin_word.ensures ∙ c.if-may_begin_word.false) (sym c.may_begin_decimal.ensures ∙ c.if-may_begin_decimal.true) c.digit_run.ensures.counted

pub returns-in-36 : goal.returns-in-36
returns-in-36 c =
    c.number-in-36.ensures
    ∙ token_hex c.args.bytes.now c.in_ok-first.rest.now c.hex_run.result
    (c.in_ok-first.ensures.cases.0 ∙ ap (λ b. b ∷ c.in_ok-first.rest.now) c.in-36.is) c.hex_run.ensures.counted

pub returns-in-37 : goal.returns-in-37
returns-in-37 c =
    c.number-in-37.ensures
    ∙ token_binary c.args.bytes.now c.in_ok-first.rest.now c.binary_run.result
    (c.in_ok-first.ensures.cases.0 ∙ ap (λ b. b ∷ c.in_ok-first.rest.now) c.in-37.is) c.binary_run.ensures.counted
