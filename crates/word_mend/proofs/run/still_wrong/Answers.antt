use Rattle.std.proofs.Common.{inl, ap, ◌∙◌}
use Rattle.model.specs.declared.tape.TapeFault.{TapeFault}
use Rattle.tape_words.specs.Meanings.{fault_line}
use Rattle.word_mend.proofs.run.still_wrong.Goals as goal

pub returns : goal.returns
returns c = inl (record {
  text = c.args.text.now;
  form = c.requires.form;
  kind = c.args.fault.kind;
  offset = c.args.fault.offset;
  first = c.requires.first;
  told = c.in_ok-text.ensures.line ∙ ap (λ (f : TapeFault). fault_line c.args.words.now.tape.now c.args.text.now f) c.moved.ensures.value;
})
