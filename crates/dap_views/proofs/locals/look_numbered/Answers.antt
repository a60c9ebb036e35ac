use Rattle.std.proofs.Common.{◌∙◌, Option, ap, map, option_map}
use Rattle.std.proofs.lemmas.Result.{IfOk-weaker}
use Rattle.c_frames.specs.declared.locals.Local.{Local}
use Rattle.dap_views.specs.Locals.{local_look, local_named, seen_local}
use Rattle.dap_views.proofs.locals.look_numbered.Goals as goal

pub returns : goal.returns
returns c =
    let memory = c.args.mon.now.session.current.bus.memory in
    let local = c.local_named-local.ensures
    ∙ (λ i. local_named (c.as_bytes.ensures.value i) (map seen_local (c.as_slice.ensures.value i))) in
    IfOk-weaker c.look_of.result _ _ (λ found is. (
      map seen_local c.in_ok-locals.locals.items,
      c.in_ok-locals.ensures,
      is ∙ ap (λ (l : Option Local). option_map (local_look memory) l) local,
    )) c.look_of.ensures
