use Rattle.std.proofs.Common.{position, sym, ap, ◌∙◌}
use Rattle.mon_runs.specs.Stops.{is_at}
use Rattle.mon_runs.proofs.StopsFound.{none, first}
use Rattle.mon_runs.proofs.stops.Stops.forget_break.Goals as goal

pub returns-in-Some-clause-found : goal.returns-in-Some-clause-found
returns-in-Some-clause-found c =
    let a = c.args.address in
    let is = ap (position (is_at a)) (sym c.as_slice.ensures.value) ∙ sym c.in-Some.ensures.first in
    sym (first a c.args.self.now.breaks.items c.in-Some.index is).0

pub returns-in-Some-clause-after : goal.returns-in-Some-clause-after
returns-in-Some-clause-after c =
    let a = c.args.address in
    let is = ap (position (is_at a)) (sym c.as_slice.ensures.value) ∙ sym c.in-Some.ensures.first in
    c.remove_at.ensures ∙ (first a c.args.self.now.breaks.items c.in-Some.index is).1

pub returns-in-None-clause-found : goal.returns-in-None-clause-found
returns-in-None-clause-found c =
    let a = c.args.address in
    let is = ap (position (is_at a)) (sym c.as_slice.ensures.value) ∙ sym c.in-None.ensures.first in
    sym (none a c.args.self.now.breaks.items is).0

pub returns-in-None-clause-after : goal.returns-in-None-clause-after
returns-in-None-clause-after c =
    let a = c.args.address in
    let is = ap (position (is_at a)) (sym c.as_slice.ensures.value) ∙ sym c.in-None.ensures.first in
    sym (none a c.args.self.now.breaks.items is).1
