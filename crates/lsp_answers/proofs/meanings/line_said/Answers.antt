use Rattle.std.proofs.Common.{◌≡◌, ◌∙◌, Some, List, ap, refl, sym}
use Rattle.std.specs.Option.{option_map}
use Rattle.line_parts.specs.Lexemes.{lexeme_of}
use Rattle.lsp_answers.specs.Meanings.{found_in, token_on, token_words}
use Rattle.lsp_answers.specs.Texts.{line_at, text_view}
use Rattle.lsp_messages.specs.Columns.{column_of}
use Rattle.model.specs.AllFaults.{Found}
use Rattle.lsp_answers.proofs.meanings.line_said.Goals as goal

pub returns-in-Ok-Some : goal.returns-in-Ok-Some
returns-in-Ok-Some c =
    let t = text_view c.args.text.now in
    let n = c.in-Some.number in
    let lexeme = lexeme_of c.in-Some-token.token in
    let token : token_on t.profile (column_of c.args.character (line_at t n)) (line_at t n) ≡ Some lexeme =
    sym (rw (c.column_of.ensures.column, c.line-line.ensures) at c.in-Ok.ensures) ∙ ap (option_map lexeme_of) c.in-Some-token.is in
    let words : token_words t.profile (found_in t) n lexeme ≡ Some c.in-Ok-Some.words.items =
    sym (ap (λ (fs : List Found). token_words t.profile fs n lexeme) c.requires) ∙ sym (rw c.in-Ok-Some.field-0-is at c.in-Ok-Some.ensures) in
    rw (c.in-Some.is, token, words, ← c.line_alone.ensures) (c.said.ensures _ _ refl c.range-range.ensures)
