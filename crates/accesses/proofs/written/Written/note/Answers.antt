use Rattle.std.proofs.Common.{◌∙◌, ap, true}
use Rattle.std.specs.Prelude.{slice_set}
use Rattle.accesses.proofs.Bytes.{unmarked}
use Rattle.accesses.proofs.written.Written.note.Goals as goal

pub returns : goal.returns
returns c = unmarked c.self.inside.marks.items c.args.address ∙ ap (λ cells. slice_set cells c.args.address true) c.self.view_is
