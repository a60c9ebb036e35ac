use Rattle.std.proofs.Common.{◌∙◌, ◌∷◌, [], ap, map}
use Rattle.std.proofs.lemmas.List.{map-append}
use Rattle.dap_views.specs.Found.{stop_view}
use Rattle.dap_views.proofs.wanted.push_stop.Goals as goal

pub returns-clause-stops : goal.returns-clause-stops
returns-clause-stops c = ap (map stop_view) c.in_ok-push-2.ensures.items ∙ map-append stop_view c.args.stops.now.items (c.args.stop ∷ [])
