use Rattle.std.proofs.Common.{position, slice_set, sym, ap, ◌∙◌}
use Rattle.mon_runs.specs.Stops.{is_at, is_stop, visited}
use Rattle.mon_runs.proofs.StopsFound.{none, first}
use Rattle.mon_runs.proofs.stops.Stops.is_met.Goals as goal

pub returns-in-None-clause-stop : goal.returns-in-None-clause-stop
returns-in-None-clause-stop c =
    let a = c.args.address in
    let is = ap (position (is_at a)) (sym c.as_slice.ensures.value) ∙ sym c.in-None.ensures.first in
    sym ((none a c.args.self.now.breaks.items is).2 c.args.session.now.current).0

pub returns-in-None-clause-after : goal.returns-in-None-clause-after
returns-in-None-clause-after c =
    let a = c.args.address in
    let is = ap (position (is_at a)) (sym c.as_slice.ensures.value) ∙ sym c.in-None.ensures.first in
    sym ((none a c.args.self.now.breaks.items is).2 c.args.session.now.current).1

pub returns-in-Some-get_mut-clause-stop : goal.returns-in-Some-get_mut-clause-stop
returns-in-Some-get_mut-clause-stop c =
    let a = c.args.address in
    let s = c.args.session.now.current in
    let is = ap (position (is_at a)) (sym c.as_slice.ensures.value) ∙ sym c.in-Some.ensures.first in
    c.visit.ensures.stop ∙ ap (is_stop s) c.in-Some-get_mut.ensures.value
    ∙ sym ((first a c.args.self.now.breaks.items c.in-Some.index is).3 c.in-Some-get_mut.stop.now s).0

pub returns-in-Some-get_mut-clause-after : goal.returns-in-Some-get_mut-clause-after
returns-in-Some-get_mut-clause-after c =
    let a = c.args.address in
    let bs = c.args.self.now.breaks.items in
    let s = c.args.session.now.current in
    let is = ap (position (is_at a)) (sym c.as_slice.ensures.value) ∙ sym c.in-Some.ensures.first in
    ap (slice_set bs c.in-Some.index) (c.visit.ensures.after ∙ ap (visited s) c.in-Some-get_mut.ensures.value)
    ∙ sym ((first a bs c.in-Some.index is).3 c.in-Some-get_mut.stop.now s).1
