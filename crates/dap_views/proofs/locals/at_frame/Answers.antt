use Rattle.std.proofs.Common.{◌≡◌, ◌∙◌, IfOk, Option, ap, map, subst}
use Rattle.dap_views.specs.Locals.{in_function, seen_local}
use Rattle.source_map.specs.Functions.{FunctionView}
use Rattle.dap_views.proofs.locals.at_frame.Goals as goal

pub returns-in-Some : goal.returns-in-Some
returns-in-Some c = subst (λ (f : Option FunctionView). IfOk c.in_function.result
    (λ list. map seen_local list.items ≡ in_function c.args.tables.now c.args.frame f)) c.in-Some.ensures c.in_function.ensures

pub returns-in-None : goal.returns-in-None
returns-in-None c = ap (map seen_local) c.new.ensures.items
    ∙ ap (λ (f : Option FunctionView). in_function c.args.tables.now c.args.frame f) c.in-None.ensures
