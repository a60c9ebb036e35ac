use Rattle.std.proofs.Common.{inl, inr, ap, ◌∙◌, ◌++◌}
use Rattle.word_info.specs.declared.wording.TheConstants.{CAPTURE}
use Rattle.word_info.proofs.run.capture_answer.Goals as goal

pub returns : goal.returns
returns c = inr (inl (record {
  bytes = c.args.bytes.now;
  no_image = c.args.why;
  is = c.requires.other;
  none = c.requires.none;
  capture = c.requires.capture;
  told = c.in_ok-push_str.ensures.bytes ∙ ap (λ t. t ++ CAPTURE.now) c.in_ok-text.ensures;
}))
