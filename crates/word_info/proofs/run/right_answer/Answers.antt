use Rattle.std.proofs.Common.{◌∙◌, ◌++◌, ap, subst}
use Rattle.std.specs.Prelude.{string_bytes}
use Rattle.std.proofs.Common.{Result}
use Rattle.image_reader.specs.declared.form.Form.{Form}
use Rattle.image_files.specs.declared.form.OtherText.{OtherText}
use Rattle.word_info.specs.Told.{IsEndText}
use Rattle.tape_words.specs.Asked.{info_view}
use Rattle.word_info.proofs.Forms.{right_image}
use Rattle.word_info.proofs.run.right_answer.Goals as goal

pub returns : goal.returns
returns c =
    right_image (info_view c.args.words.now) c.args.bytes.now c.args.image.now c.args.map.now.port c.args.tape.now.records
    c.args.tape.now.overlaps.items (string_bytes c.in_ok-text.text) (string_bytes c.in_ok-end.end) _ c.requires.port c.requires.denotes
    c.requires.records c.requires.overlaps c.in_ok-text.ensures
    (subst (λ (told : Result Form OtherText). IsEndText told c.args.bytes.now (string_bytes c.in_ok-end.end)) c.form_by.ensures c.in_ok-end.ensures)
    (c.in_ok-push_str.ensures.bytes ∙ ap (λ t. string_bytes c.in_ok-text.text ++ t) c.as_str.ensures.value)
