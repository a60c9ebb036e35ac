use Rattle.std.proofs.Common.{◌∙◌, ◌++◌, ◌∷◌, [], ℕ, List, ap, map}
use Rattle.std.proofs.lemmas.List.{map-append}
use Rattle.dap_views.specs.Locals.{seen_local}
use Rattle.dap_views.proofs.locals.push_local.Goals as goal

pub returns : goal.returns
returns c =
    let before = map seen_local c.args.list.now.items in
    ap (map seen_local) c.in_ok-push.ensures.items ∙ map-append seen_local c.args.list.now.items _
    ∙ ap (λ (name : List ℕ). before ++ (name, c.args.local) ∷ []) c.as_slice.ensures.value
