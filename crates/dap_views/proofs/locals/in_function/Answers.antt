use Rattle.std.proofs.Common.{◌∙◌, List, Option, ap, length, map, sym}
use Rattle.std.proofs.lemmas.List.{length-map}
use Rattle.std.proofs.lemmas.Result.{IfOk-weaker}
use Rattle.c_frames.specs.declared.locals.Local.{Local}
use Rattle.call_frames.specs.Found.{auto_of, autos_of}
use Rattle.call_frames.specs.Tables.{local_in}
use Rattle.dap_views.specs.Locals.{named_locals}
use Rattle.source_map.specs.Functions.{local_view}
use Rattle.source_map.specs.declared.functions.CLocal.{CLocal}
use Rattle.dap_views.proofs.locals.in_function.Goals as goal

pub named_locals-requires : goal.named_locals-requires
named_locals-requires c =
    let all = c.args.function.now.locals.items in
    let views = map local_view all in
    let autos = autos_of views in
    ap (λ (xs : List (Option Local)). length xs) (c.as_slice-2.ensures.value ∙ c.in_ok-locals.ensures)
    ∙ length-map autos (local_in c.args.tables.now c.args.frame autos) ∙ length-map views auto_of
    ∙ length-map all local_view ∙ sym (ap (λ (xs : List CLocal). length xs) c.as_slice.ensures.value)

pub returns : goal.returns
returns c = IfOk-weaker c.named_locals.result _ _
    (λ list is. is ∙ (λ i. named_locals (map local_view (c.as_slice.ensures.value i)) ((c.as_slice-2.ensures.value ∙ c.in_ok-locals.ensures) i)))
    c.named_locals.ensures
