use Rattle.std.proofs.Common.{inr}
use Rattle.word_info.proofs.debugged.wrong_debug.Goals as goal

pub returns : goal.returns
returns c = inr (record {
  bytes = c.args.bytes.now;
  form = c.args.form;
  begun = c.requires.begun;
  fault = c.args.fault;
  first = c.requires.first;
  told = c.in_ok-text.ensures;
})
