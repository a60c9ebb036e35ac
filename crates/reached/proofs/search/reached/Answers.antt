use Rattle.reached.specs.Search.{seen_of}
use Rattle.reached.proofs.Searching.{finished}
use Rattle.reached.proofs.search.reached.Goals as goal

pub returns : goal.returns
returns c =
    finished c.args.profile c.args.image.now c.args.marks.now c.args.routines.now c.args.starts.now (seen_of c.explore.new.self)
    (rw c.cells-cells.ensures.same at c.in_ok-explore.ensures)
