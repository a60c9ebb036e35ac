use Rattle.std.proofs.Common.{inr}
use Rattle.std.proofs.lemmas.Result.{IfOk-weaker}
use Rattle.word_mend.proofs.run.records_said.Goals as goal

pub returns : goal.returns
returns c = IfOk-weaker c.records_report.result _ _ (λ said told. inr (inr (record {
  text = c.args.text.now;
  form = c.args.form;
  told_form = c.requires.form;
  out = c.args.mended.now.text.items;
  image = c.args.mended.now.image;
  fault = c.args.mended.now.fault;
  mended = c.requires.text;
  denotes = c.requires.denotes;
  report = told;
}))) c.records_report.ensures
