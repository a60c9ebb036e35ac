use Rattle.std.proofs.Common.{◌∙◌, List, ap, map}
use Rattle.source_map.specs.Functions.{function_view, local_view}
use Rattle.source_map.specs.declared.functions.CLocal.{CLocal}
use Rattle.mon_calls.proofs.Told.{rows_known, told_if_any}
use Rattle.mon_calls.proofs.locals.push_known.Goals as goal

pub returns : goal.returns
returns c =
    told_if_any c.push_if_any.result _ c.args.text.now.items c.push_if_any.new.text.items c.as_slice-2.result.now _
    (c.as_slice-2.ensures.value ∙ rows_known c.args.tables.now c.args.session.now.current.bus.memory c.args.frame (function_view c.args.function.now)
    c.as_slice-locals.result.now c.as_slice.result.now c.new-rows.result.items c.push_rows.new.text.items c.new-rows.ensures.items
    (ap (λ (ls : List CLocal). map local_view ls) c.as_slice-locals.ensures.value) (c.as_slice.ensures.value ∙ c.in_ok-autos.ensures)
    c.in_ok-push_rows.ensures)
    c.push_if_any.ensures
