use Rattle.std.proofs.Common.{◌∙◌, ◌++◌, ◌∷◌, [], ℕ, List, Option, ap, append-nil, map, sym}
use Rattle.std.proofs.lemmas.List.{map-append}
use Rattle.dap_views.specs.Found.{stop_view, told_view}
use Rattle.dap_views.proofs.wanted.push_unset.Goals as goal

pub returns : goal.returns
returns c =
    let told = map told_view c.args.list.now.told.items in (
      ap (map told_view) c.in_ok-push.ensures.items ∙ map-append told_view c.args.list.now.told.items _
          ∙ ap (λ (t : Option ℕ × List ℕ). told ++ t ∷ []) c.unset.ensures,
      sym (append-nil (map stop_view c.args.list.now.stops.items)),
    )
