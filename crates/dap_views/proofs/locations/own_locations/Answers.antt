use Rattle.std.proofs.Common.{List, subst}
use Rattle.dap_messages.specs.SeenAnswers.{SeenItem}
use Rattle.dap_views.specs.Locations.{locations_of}
use Rattle.dap_messages.specs.ItemLists.{HasItems}
use Rattle.dap_views.proofs.locations.own_locations.Goals as goal

pub returns : goal.returns
returns c =
    subst (λ (ds : List SeenItem). HasItems ds c.locations_of.result)
    (λ i. locations_of c.args.counting c.args.file (c.own_line-first.ensures i) (c.own_line-last.ensures i) (c.rows.ensures i))
    c.locations_of.ensures
