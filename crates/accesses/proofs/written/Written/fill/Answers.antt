use Rattle.std.proofs.Common.{◌∙◌, ap, map, arith}
use Rattle.accesses.specs.Writing.{is_unmarked}
use Rattle.accesses.proofs.Bytes.{everywhere_is, unmarked_all}
use Rattle.accesses.proofs.written.Written.fill.Goals as goal

pub returns : goal.returns
returns c = ap (map is_unmarked) (c.fill.ensures.items (λ y h. h)) ∙ unmarked_all _ ∙ everywhere_is _ (omega arith)
