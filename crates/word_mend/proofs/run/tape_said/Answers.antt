use Rattle.std.proofs.Common.{inl}
use Rattle.std.proofs.lemmas.Result.{IfOk-weaker}
use Rattle.word_mend.proofs.run.tape_said.Goals as goal

pub returns : goal.returns
returns c = IfOk-weaker c.report.result _ _ (λ said told. inl (record {
  text = c.args.text.now;
  form = c.requires.form;
  out = c.args.mended.now.text.items;
  image = c.args.mended.now.image;
  fault = c.args.mended.now.fault;
  mended = c.requires.text;
  denotes = c.requires.denotes;
  records = c.requires.records;
  report = told;
})) c.report.ensures
