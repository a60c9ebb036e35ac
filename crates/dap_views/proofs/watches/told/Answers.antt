use Rattle.std.proofs.Common.{◌∙◌, if◌then◌else◌, sym}
use Rattle.dap_messages.specs.SeenAnswers.{data_unwatched, data_watched}
use Rattle.dap_views.specs.Watches.{told_at}
use Rattle.dap_views.specs.declared.watches.TheConstants.{NOT_WATCHED}
use Rattle.dap_views.proofs.watches.told.Goals as goal

pub returns-then-is_watched : goal.returns-then-is_watched
returns-then-is_watched c =
    let watches = c.args.stops.now.watches.items in
    let place = sym c.in-Some.is in
    let watched = sym c.if-is_watched.true ∙ c.is_watched.ensures in
    (λ i. if watched i then data_watched else data_unwatched NOT_WATCHED.now) ∙ (λ i. told_at watches (place i) c.args.wanted.now.access)
