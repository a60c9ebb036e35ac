use Rattle.std.proofs.Common.{Err, ap, inl, inr}
use Rattle.image_files.proofs.Images.{only_other, refused_other}
use Rattle.image_files.proofs.bytes.no_form.Goals as goal

pub returns-clause-only : goal.returns-clause-only
returns-clause-only c = λ cells is. only_other c.args.said c.args.bytes.now c.args.like _ cells c.requires is

pub returns-clause-fault : goal.returns-clause-fault
returns-clause-fault c = inr c.requires

pub returns-clause-refused : goal.returns-clause-refused
returns-clause-refused c = λ why is. inl (ap Err (refused_other c.args.said c.args.bytes.now c.args.like why c.requires is))
