use Rattle.std.proofs.Common.{◌+◌, [], ◌∷◌, ◌++◌, ap, ◌∙◌}
use Rattle.mon_runs.specs.Stops.{new_among}
use Rattle.mon_runs.proofs.Added.{none_added, one_more}
use Rattle.mon_runs.proofs.stops.add_stretch.Goals as goal

pub loop-offset-init : goal.loop-offset-init
loop-offset-init c = none_added c.args.changes.now.items c.args.watches.now c.args.first

pub loop-offset-preserved : goal.loop-offset-preserved
loop-offset-preserved c =
    let ws = c.args.watches.now in
    let here = c.args.first + c.loop-offset.offset in
    c.in-Ok.ensures.ok ∙ ap (λ l. l ++ new_among ws (here ∷ [])) c.loop-offset.invariant
    ∙ one_more c.args.changes.now.items ws c.args.first c.loop-offset.offset
