use Rattle.std.proofs.Common.{ap, sym, ◌∙◌}
use Rattle.std.specs.Prelude.{◌==◌}
use Rattle.std.specs.List.{prefix_len}
use Rattle.model.specs.Token.{begins, is_string_byte}
use Rattle.lexer.proofs.Runs.{from, behind, string_is, string_empty, string_open}
use Rattle.lexer.proofs.lexer.string.Goals as goal
use Rattle.lexer.proofs.lexer.string.Goals.{then-inside-eq0-via-then-inside-eq0, then-inside-eq0-via-else-inside-eq0+then-not-begins_with_quote}

pub returns-then-inside-eq0 : goal.returns-then-inside-eq0
returns-then-inside-eq0 c =
    let bytes = c.args.bytes.now in
    let n = c.string_run-inside.result in
    let count = c.string_run-inside.ensures.counted ∙ ap (prefix_len is_string_byte) (from 1 bytes) in
    elim c.then-inside-eq0.branch [
      | then-inside-eq0-via-then-inside-eq0 w ↦ string_empty bytes n count w.if-inside-eq0.true
      | then-inside-eq0-via-else-inside-eq0+then-not-begins_with_quote w ↦
          string_open bytes n count w.if-inside-eq0.false (sym (ap (begins (λ b. b == 34)) (behind n bytes)) ∙ sym w.begins_with_quote.ensures.quote
          ∙ w.if-not-begins_with_quote.true)
    ]

pub returns : goal.returns
returns c =
    let bytes = c.args.bytes.now in
    let n = c.string_run-inside.result in
    let count = c.string_run-inside.ensures.counted ∙ ap (prefix_len is_string_byte) (from 1 bytes) in
    string_is bytes n c.requires count c.if-inside-eq0.false
    (sym (ap (begins (λ b. b == 34)) (behind n bytes)) ∙ sym c.begins_with_quote.ensures.quote ∙ c.if-not-begins_with_quote.false)
