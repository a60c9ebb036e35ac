use Rattle.std.proofs.Common.{◌∙◌, ap, false}
use Rattle.std.specs.Prelude.{slice_set}
use Rattle.accesses.proofs.Bytes.{marked}
use Rattle.accesses.proofs.written.Written.forget.Goals as goal

pub returns : goal.returns
returns c = marked c.self.inside.marks.items c.args.address ∙ ap (λ cells. slice_set cells c.args.address false) c.self.view_is
