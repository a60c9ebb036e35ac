use Rattle.std.proofs.Common.{◌≡◌, ◌∙◌, ◌++◌, ◌∷◌, [], List, Option, ℕ, ap, arith, subst}
use Rattle.debug_records.specs.Info.{record_at}
use Rattle.debug_facts.specs.Hidden.{AreCells, hidden_cell}
use Rattle.debug_facts.proofs.Cells.{cell_made, none_made}
use Rattle.debug_facts.proofs.hidden.cells_by.Goals as goal

pub loop-address-init : goal.loop-address-init
loop-address-init c = record { few = omega arith; made = none_made _ _ _ c.new-cells.ensures.items }

pub loop-address-preserved : goal.loop-address-preserved
loop-address-preserved c = record {
  few = omega (arith, c.loop-address-test.true);
  made = cell_made c.args.found.now c.args.shown.now _ _ c.loop-address.address
      (c.in_ok-push_cell.ensures ∙ ap (λ (cell : Option ℕ). c.loop-address.cells.items ++ cell ∷ []) cc)
      c.loop-address.invariant.made;
}

pub returns : goal.returns
returns c =
    subst (λ (n : ℕ). AreCells c.args.found.now c.args.shown.now n c.loop-address.cells.items)
    (omega (arith, c.loop-address-test.false, c.loop-address.invariant.few)) c.loop-address.invariant.made
