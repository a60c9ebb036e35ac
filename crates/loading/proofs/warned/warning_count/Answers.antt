use Rattle.std.proofs.Common.{List, inr, refl, subst, ℕ}
use Rattle.loading.specs.Warned.{IsCount}
use Rattle.model.specs.State.{Map}
use Rattle.loading.proofs.warned.warning_count.Goals as goal

pub returns-in-Ok : goal.returns-in-Ok
returns-in-Ok c =
    subst (λ (m : Map). IsCount m c.args.assembly.now.source c.count_on.result) c.in-Ok.ensures.map
    (subst (λ (source : List ℕ). IsCount c.in-Ok.map source c.count_on.result) c.source.ensures c.count_on.ensures)

pub returns-in-Err : goal.returns-in-Err
returns-in-Err c = inr refl
