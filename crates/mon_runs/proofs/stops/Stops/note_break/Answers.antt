use Rattle.std.proofs.Common.{position, remove, [], ◌∷◌, ◌++◌, sym, ap, ◌∙◌}
use Rattle.mon_runs.specs.Stops.{is_at}
use Rattle.mon_runs.proofs.StopsFound.{none, first}
use Rattle.mon_runs.proofs.stops.Stops.note_break.Goals as goal

pub returns-in-Some-clause-ok : goal.returns-in-Some-clause-ok
returns-in-Some-clause-ok c =
    let a = c.args.stop.address in
    let i = c.in-Some.index in
    let is = ap (position (is_at a)) (sym c.as_slice.ensures.value) ∙ sym c.in-Some.ensures.first in
    c.remove_at.ensures ∙ ap (λ l. remove l i) c.in_ok-push.ensures.items
    ∙ (first a c.args.self.now.breaks.items i is).2 (c.args.stop ∷ [])

pub returns-in-None-clause-ok : goal.returns-in-None-clause-ok
returns-in-None-clause-ok c =
    let a = c.args.stop.address in
    let is = ap (position (is_at a)) (sym c.as_slice.ensures.value) ∙ sym c.in-None.ensures.first in
    c.in_ok-push.ensures.items
    ∙ ap (λ l. l ++ c.args.stop ∷ []) (sym (none a c.args.self.now.breaks.items is).1)
