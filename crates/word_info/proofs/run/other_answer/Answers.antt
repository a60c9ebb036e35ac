use Rattle.std.proofs.Common.{inr, ap, ◌∙◌, ◌++◌, subst, sym, Result}
use Rattle.std.specs.Prelude.{string_bytes}
use Rattle.image_files.specs.declared.form.OtherText.{OtherText}
use Rattle.image_reader.specs.declared.form.Form.{Form}
use Rattle.word_info.specs.Told.{IsSumsText}
use Rattle.word_info.proofs.run.other_answer.Goals as goal

pub returns : goal.returns
returns c = inr (inr (record {
  bytes = c.args.bytes.now;
  no_image = c.args.why;
  is = c.requires.other;
  plain = c.requires.plain;
  behind = string_bytes c.in_ok-sums.sums;
  sums = subst (λ (told : Result Form OtherText). IsSumsText told c.args.bytes.now (string_bytes c.in_ok-sums.sums)) c.form_by.ensures c.in_ok-sums.ensures;
  told = c.in_ok-push_str.ensures.bytes ∙ ap (λ t. string_bytes c.in_ok-text.text ++ t) c.as_str.ensures.value
      ∙ ap (λ t. t ++ string_bytes c.in_ok-sums.sums) c.in_ok-text.ensures;
}))
