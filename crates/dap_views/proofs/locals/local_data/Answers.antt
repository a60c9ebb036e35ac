use Rattle.std.proofs.Common.{◌∙◌, Option, ap, map}
use Rattle.std.proofs.lemmas.Result.{IfOk-weaker}
use Rattle.c_frames.specs.declared.locals.Local.{Local}
use Rattle.dap_views.specs.Locals.{local_named, local_range, seen_local}
use Rattle.dap_views.specs.Watches.{data_by}
use Rattle.dap_views.proofs.locals.local_data.Goals as goal

pub returns : goal.returns
returns c =
    let local = c.local_named-local.ensures
    ∙ (λ i. local_named (c.as_bytes.ensures.value i) (map seen_local (c.as_slice.ensures.value i))) in
    IfOk-weaker c.data_of.result _ _ (λ v is. (
      map seen_local c.in_ok-locals.locals.items,
      c.in_ok-locals.ensures,
      is ∙ ap data_by (c.local_range.ensures ∙ ap (λ (l : Option Local). local_range c.args.count l) local),
    )) c.data_of.ensures
