use Rattle.std.proofs.Common.{refl}
use Rattle.model.specs.Undo.{cells_of}
use Rattle.bus.proofs.Stamping.{still_same}
use Rattle.bus.proofs.pages.stamp_pages.Goals as goal

pub returns : goal.returns
returns c = λ memory since le kept same. still_same since c.args.now _ _ (cells_of c.args.change.now) kept _ memory le c.stamp_cells.ensures.kept
    c.stamp_cells.ensures.others refl same
