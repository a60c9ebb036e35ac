use Rattle.std.proofs.Common.{ap, ◌∙◌}
use Rattle.model.specs.TextLines.{lines_of}
use Rattle.warnings.specs.Views.{placed_views}
use Rattle.warnings.proofs.Looking.{whole_of}
use Rattle.warnings.proofs.whole_source.warnings_found.Goals as goal

pub returns : goal.returns
returns c =
    whole_of c.warnings_in.result (λ w. w.items) c.args.profile (lines_of c.args.source.now) c.args.found.now c.args.names.now
    (placed_views c.deref.result.now) (lines_of c.in_ok-placed.placed.behind.now)
    (ap placed_views c.deref.ensures.value ∙ c.in_ok-placed.ensures.lines) c.in_ok-placed.ensures.behind c.warnings_in.ensures
