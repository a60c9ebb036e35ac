use Rattle.std.proofs.Common.{◌≡◌, ◌∙◌, ap, arith, sym}
use Rattle.std.proofs.lemmas.Bool.{eqb-true, eqb-false, le-ltb}
use Rattle.model.specs.Commands.{asm_command, rest_of, text_of, without_spaces}
use Rattle.commands.proofs.Texts.{text_short}
use Rattle.commands.proofs.Inputs.{asm_line, in_line, empty_line, line_of_two, line_of_three}
use Rattle.commands.proofs.command_line.parse.Goals as goal

pub returns-then-is_text-2 : goal.returns-then-is_text-2
returns-then-is_text-2 c =
    c.input_command.ensures ∙ in_line c.args.line.now c.next_word.result.0.now c.next_word.result.1.now c.next_word-2.result.0.now
    c.next_word-2.result.1.now (le-ltb _ _ c.if-line-gt255.false) c.next_word.ensures.word (eqb-false _ _ (sym c.if-is_empty.ensures))
    c.next_word-2.ensures.word (eqb-false _ _ (sym c.if-is_empty-2.ensures))
    (sym c.if-is_text.ensures) (sym c.if-is_text-2.ensures)

pub returns-then-is_text : goal.returns-then-is_text
returns-then-is_text c =
    c.asm_command.ensures ∙ ap (λ a. asm_command a c.without_spaces.result.now) c.address_of.ensures
    ∙ asm_line c.args.line.now c.next_word.result.0.now c.next_word.result.1.now c.next_word-2.result.0.now c.next_word-2.result.1.now _
    (le-ltb _ _ c.if-line-gt255.false) c.next_word.ensures.word c.next_word-2.ensures.word
    c.next_word.ensures.behind c.next_word-2.ensures.behind c.without_spaces.ensures (sym c.if-is_text.ensures)

pub asm_command-requires : goal.asm_command-requires
asm_command-requires c =
    let is_text : c.without_spaces.result.now ≡ text_of c.args.line.now =
    c.without_spaces.ensures ∙ ap without_spaces (c.next_word-2.ensures.behind ∙ ap rest_of c.next_word.ensures.behind) in
    rw is_text (omega (arith, text_short c.args.line.now, c.if-line-gt255.false))

pub returns-then-is_empty : goal.returns-then-is_empty
returns-then-is_empty c = empty_line c.args.line.now c.next_word.result.0.now c.next_word.result.1.now (le-ltb _ _ c.if-line-gt255.false)
    c.next_word.ensures.word (eqb-true _ _ (sym c.if-is_empty.ensures)) (sym c.if-is_text.ensures)

pub returns-then-is_empty-3 : goal.returns-then-is_empty-3
returns-then-is_empty-3 c =
    c.pair_command.ensures ∙ line_of_two c.args.line.now c.next_word.result.0.now c.next_word.result.1.now c.next_word-2.result.0.now
    c.next_word-2.result.1.now c.next_word-3.result.0.now c.next_word-3.result.1.now
    (le-ltb _ _ c.if-line-gt255.false) c.next_word.ensures.word (eqb-false _ _ (sym c.if-is_empty.ensures)) c.next_word-2.ensures.word
    (eqb-false _ _ (sym c.if-is_empty-2.ensures))
    c.next_word-3.ensures.word (eqb-true _ _ (sym c.if-is_empty-3.ensures)) (sym c.if-is_text.ensures)

pub returns-then-is_empty-4 : goal.returns-then-is_empty-4
returns-then-is_empty-4 c =
    c.triple_command.ensures ∙ line_of_three c.args.line.now c.next_word.result.0.now c.next_word.result.1.now c.next_word-2.result.0.now
    c.next_word-2.result.1.now c.next_word-3.result.0.now c.next_word-3.result.1.now
    c.next_word-4.result.0.now c.next_word-4.result.1.now (le-ltb _ _ c.if-line-gt255.false) c.next_word.ensures.word
    (eqb-false _ _ (sym c.if-is_empty.ensures)) c.next_word-2.ensures.word (eqb-false _ _ (sym c.if-is_empty-2.ensures))
    c.next_word-3.ensures.word (eqb-false _ _ (sym c.if-is_empty-3.ensures)) c.next_word-4.ensures.word (eqb-true _ _ (sym c.if-is_empty-4.ensures))
    (sym c.if-is_text.ensures)
