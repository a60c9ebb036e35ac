use Rattle.std.proofs.Common.{inr}
use Rattle.word_mend.proofs.run.records_still_wrong.Goals as goal

pub returns : goal.returns
returns c = inr (inr (record {
  text = c.args.text.now;
  form = c.args.form;
  told_form = c.requires.form;
  fault = c.args.fault;
  first =
      c.requires.first;
  told = c.in_ok-text.ensures;
}))
