use Rattle.std.proofs.Common.{inl, inr}
use Rattle.std.proofs.lemmas.Result.{IfOk-weaker}
use Rattle.word_mend.proofs.run.capture_said.Goals as goal

pub returns : goal.returns
returns c = IfOk-weaker c.capture_report.result _ _ (λ said told. inr (inl (record {
  text = c.args.text.now;
  form = c.requires.form;
  out = c.args.captured.now.text.items;
  image = c.args.captured.now.image;
  made = c.requires.text;
  denotes = c.requires.denotes;
  capture = c.requires.capture;
  report = told;
}))) c.capture_report.ensures
