use Rattle.std.proofs.Common.{◌++◌, [], ◌∷◌, ap, sym, ◌∙◌, get_or, ℕ, List, refl}
use Rattle.std.specs.Prelude.{None, unwrap_or}
use Rattle.memory_map.proofs.Bytes.{next_byte}
use Rattle.memory_map.proofs.memory.memory_of.Goals as goal

pub loop-cell-preserved : goal.loop-cell-preserved
loop-cell-preserved c =
    c.in_ok-push.ensures.items
    ∙ ap (λ (b : ℕ). c.loop-cell.memory.items ++ (b ∷ [])) c.unwrap_or.ensures
    ∙ ap (λ (front : List ℕ). front ++ (unwrap_or (get_or c.cells-cell-items.result.now c.loop-cell.cell-index None) 0 ∷ [])) c.loop-cell.invariant
    ∙ sym (next_byte c.cells-cell-items.result.now c.loop-cell.cell-index (get_or c.cells-cell-items.result.now c.loop-cell.cell-index None)
    c.loop-cell-test.true refl)
