use Rattle.std.proofs.Common.{◌∙◌, ◌∷◌, ◌++◌, [], List, ap, append-nil, if◌then◌else◌, subst, sym}
use Rattle.dap_messages.specs.Counting.{shown_line}
use Rattle.dap_messages.specs.ItemLists.{HasItems}
use Rattle.dap_messages.specs.SeenAnswers.{SeenItem, place_on}
use Rattle.dap_views.proofs.locations.with_location.Goals as goal

pub returns-then-is_location : goal.returns-then-is_location
returns-then-is_location c = λ ds has.
    let within = sym c.if-is_location.true ∙ c.is_location.ensures in
    let here = place_on (shown_line c.args.counting c.args.row.line) ∷ [] in
    subst (λ (es : List SeenItem). HasItems (ds ++ es) c.with.result) (λ i. if within i then here else []) (c.with.ensures ds _ has
    (ap place_on c.shown_line.ensures))
