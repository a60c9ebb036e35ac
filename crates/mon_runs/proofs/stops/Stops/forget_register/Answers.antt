use Rattle.std.proofs.Common.{Bool, is_some, position, sym, ap, ◌∙◌}
use Rattle.mon_runs.specs.Stops.{is_of}
use Rattle.mon_runs.specs.declared.watches.Watch.{Watch}
use Rattle.mon_runs.proofs.StopsFound.{nothing_passes, passes}
use Rattle.mon_runs.proofs.stops.Stops.forget_register.Goals as goal

pub returns-in-Some-clause-found : goal.returns-in-Some-clause-found
returns-in-Some-clause-found c =
    let p : Watch → Bool = is_of c.args.register in
    let is = ap (position p) (sym c.as_slice.ensures.value) ∙ sym c.in-Some.ensures.first in
    sym (ap is_some ((passes p c.args.self.now.watches.items c.in-Some.index is).1 c.remove.result))

pub returns-in-Some-clause-after : goal.returns-in-Some-clause-after
returns-in-Some-clause-after c =
    let p : Watch → Bool = is_of c.args.register in
    let is = ap (position p) (sym c.as_slice.ensures.value) ∙ sym c.in-Some.ensures.first in
    c.remove.ensures.items ∙ (passes p c.args.self.now.watches.items c.in-Some.index is).0

pub returns-in-None-clause-found : goal.returns-in-None-clause-found
returns-in-None-clause-found c =
    let p : Watch → Bool = is_of c.args.register in
    let is = ap (position p) (sym c.as_slice.ensures.value) ∙ sym c.in-None.ensures.first in
    sym (ap is_some (nothing_passes p c.args.self.now.watches.items is).0)

pub returns-in-None-clause-after : goal.returns-in-None-clause-after
returns-in-None-clause-after c =
    let p : Watch → Bool = is_of c.args.register in
    let is = ap (position p) (sym c.as_slice.ensures.value) ∙ sym c.in-None.ensures.first in
    sym (nothing_passes p c.args.self.now.watches.items is).1
