use Rattle.std.proofs.Common.{ap, ◌∙◌}
use Rattle.std.proofs.lemmas.Bool.{false≢true}
use Rattle.model.specs.declared.source_fault.AsmFault.{AsmFault}
use Rattle.name_uses.proofs.checked.is_source_of.Goals as goal

pub returns-in-Ok-clause-wrong : goal.returns-in-Ok-clause-wrong
returns-in-Ok-clause-wrong c = λ no d. c.is_same.ensures.apart no (c.image.ensures ∙ c.in-Ok.ensures.only c.args.image.now d)

pub returns-in_default : goal.returns-in_default
returns-in_default c = record {
  right = λ e. absurd (false≢true e);
  wrong = λ no d. c.in_default.not-OutOfMemory (ap (λ (f : AsmFault). f.kind) (c.in-Err.ensures.only c.args.image.now d));
}
