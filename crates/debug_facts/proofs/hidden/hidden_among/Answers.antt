use Rattle.debug_facts.proofs.Cells.{all_made, same_tables}
use Rattle.debug_facts.proofs.hidden.hidden_among.Goals as goal

pub returns : goal.returns
returns c = all_made c.args.rows.now c.args.clear.now c.in_ok-found.found.items c.in_ok-shown.shown.items _
    c.in_ok-found.ensures c.in_ok-shown.ensures
    (same_tables _ _ _ _ _ c.in_ok-cells.ensures (cc) (cc))
