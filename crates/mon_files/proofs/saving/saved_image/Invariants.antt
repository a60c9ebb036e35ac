use Rattle.mon_files.proofs.Cells.{IsSavedBelow}
use Rattle.mon_files.proofs.saving.saved_image.Given as goal

-- The addresses so far have what is saved of them, and the others have nothing.
abbrev pub invariant-loop-address : goal.invariant-loop-address
invariant-loop-address l = IsSavedBelow l.address l.session.current.bus l.loaded l.stretch l.image
