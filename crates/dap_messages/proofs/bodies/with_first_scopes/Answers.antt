use Rattle.std.proofs.Common.{List, subst}
use Rattle.std.specs.Prelude.{codes}
use Rattle.dap_messages.proofs.Lists.{six_behind}
use Rattle.dap_messages.specs.Bodies.{first_scopes, scope}
use Rattle.json_messages.specs.ValueLists.{HasValues}
use Rattle.serde_json.specs.Data.{Data}
use Rattle.dap_messages.proofs.bodies.with_first_scopes.Goals as goal

pub returns : goal.returns
unfolding first_scopes
returns c = λ ds is.
    let three = c.with-3.ensures _ _ (c.with-2.ensures _ _ (c.with.ensures _ _ is c.scope.ensures) c.scope-2.ensures) c.scope-3.ensures in
    let six = c.with-6.ensures _ _ (c.with-5.ensures _ _ (c.with-4.ensures _ _ three c.scope-4.ensures) c.scope-5.ensures) c.scope-6.ensures in
    subst (λ (all : List Data). HasValues all c.with-6.result)
    (six_behind ds (scope (codes "Registers") 1) (scope (codes "Flags") 2) (scope (codes "Symbols") 3) (scope (codes "Stack") 4)
    (scope (codes "Zero page") 5) (scope (codes "Machine") 6)) six
