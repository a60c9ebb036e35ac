use Rattle.std.proofs.Common.{Bool, Some, position, sym, ap, ◌∙◌}
use Rattle.mon_runs.specs.Stops.{has}
use Rattle.mon_runs.specs.declared.watches.Watch.{Watch}
use Rattle.mon_runs.proofs.StopsFound.{nothing_passes, passes}
use Rattle.mon_runs.proofs.stops.Stops.forget_watch.Goals as goal

pub returns-in-Some-clause-found : goal.returns-in-Some-clause-found
returns-in-Some-clause-found c =
    let p : Watch → Bool = λ w. has w c.args.address in
    let is = ap (position p) (sym c.as_slice.ensures.value) ∙ sym c.in-Some.ensures.first in
    (λ j. Some (c.remove-watch.ensures.value j))
    ∙ sym ((passes p c.args.self.now.watches.items c.in-Some.index is).1 c.remove-watch.result)

pub returns-in-Some-clause-after : goal.returns-in-Some-clause-after
returns-in-Some-clause-after c =
    let p : Watch → Bool = λ w. has w c.args.address in
    let is = ap (position p) (sym c.as_slice.ensures.value) ∙ sym c.in-Some.ensures.first in
    c.remove-watch.ensures.items ∙ (passes p c.args.self.now.watches.items c.in-Some.index is).0

pub returns-in-None-clause-found : goal.returns-in-None-clause-found
returns-in-None-clause-found c =
    let p : Watch → Bool = λ w. has w c.args.address in
    let is = ap (position p) (sym c.as_slice.ensures.value) ∙ sym c.in-None.ensures.first in
    sym (nothing_passes p c.args.self.now.watches.items is).0

pub returns-in-None-clause-after : goal.returns-in-None-clause-after
returns-in-None-clause-after c =
    let p : Watch → Bool = λ w. has w c.args.address in
    let is = ap (position p) (sym c.as_slice.ensures.value) ∙ sym c.in-None.ensures.first in
    sym (nothing_passes p c.args.self.now.watches.items is).1
