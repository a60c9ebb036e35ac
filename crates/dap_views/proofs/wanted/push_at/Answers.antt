use Rattle.std.proofs.Common.{◌∙◌, ◌++◌, ◌∷◌, [], ℕ, List, ap, map}
use Rattle.std.proofs.lemmas.List.{map-append}
use Rattle.dap_views.specs.Found.{told_view}
use Rattle.dap_views.proofs.wanted.push_at.Goals as goal

pub returns : goal.returns
returns c =
    let told = map told_view c.args.list.now.told.items in (
      ap (map told_view) c.in_ok-push.ensures.items ∙ map-append told_view c.args.list.now.told.items _
          ∙ ap (λ (set : List ℕ). told ++ (c.args.line, set) ∷ []) c.in_ok-set.ensures.addresses,
      c.in_ok-set.ensures.stops,
    )
