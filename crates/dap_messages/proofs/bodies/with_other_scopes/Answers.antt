use Rattle.std.proofs.Common.{List, subst}
use Rattle.std.specs.Prelude.{codes}
use Rattle.dap_messages.proofs.Lists.{four_behind}
use Rattle.dap_messages.specs.Bodies.{other_scopes, scope}
use Rattle.json_messages.specs.ValueLists.{HasValues}
use Rattle.serde_json.specs.Data.{Data}
use Rattle.dap_messages.proofs.bodies.with_other_scopes.Goals as goal

pub returns : goal.returns
unfolding other_scopes
returns c = λ ds is.
    let two = c.with-2.ensures _ _ (c.with.ensures _ _ is c.scope.ensures) c.scope-2.ensures in
    let four = c.with-4.ensures _ _ (c.with-3.ensures _ _ two c.scope-3.ensures) c.scope-4.ensures in
    subst (λ (all : List Data). HasValues all c.with-4.result)
    (four_behind ds (scope (codes "Symbols") 3) (scope (codes "Stack") 4) (scope (codes "Zero page") 5) (scope (codes "Machine") 6)) four
