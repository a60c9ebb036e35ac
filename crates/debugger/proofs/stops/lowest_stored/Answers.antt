use Rattle.std.proofs.Common.{◌<◌, ◌-◌, length, sym, ap, ◌∙◌, arith, Some, min}
use Rattle.std.specs.Option.{option_map_or}
use Rattle.debugger.specs.Stops.{before_of}
use Rattle.debugger.proofs.Watching.{changed_here, changed_later, one_there}
use Rattle.debugger.proofs.stops.lowest_stored.Goals as goal

pub loop-index-preserved-then-byte_before-peek : goal.loop-index-preserved-then-byte_before-peek
loop-index-preserved-then-byte_before-peek c =
    let a = c.in-Some.address in
    record {
      within = omega arith;
      least = ap Some (c.lower.ensures ∙ ap (λ l. option_map_or (min a) l a) c.loop-index.invariant.least)
          ∙ sym (changed_here c.args.watches.now c.loop-index.index a (before_of c.args.change.now c.args.machine.now) c.args.machine.now
          c.loop-index-test.true c.loop-index.invariant.within
          (sym c.at.ensures ∙ c.in-Some.is) (rw (c.byte_before.ensures, c.peek.ensures.value) at c.if-byte_before-peek.true));
    }

pub loop-index-preserved-else-byte_before-peek : goal.loop-index-preserved-else-byte_before-peek
loop-index-preserved-else-byte_before-peek c =
    let a = c.in-Some.address in
    record {
      within = omega arith;
      least = c.loop-index.invariant.least
          ∙ sym (changed_later c.args.watches.now c.loop-index.index a (before_of c.args.change.now c.args.machine.now) c.args.machine.now
          c.loop-index-test.true c.loop-index.invariant.within
          (sym c.at.ensures ∙ c.in-Some.is) (sym c.byte_before.ensures ∙ c.if-byte_before-peek.false ∙ c.peek.ensures.value));
    }

pub loop-index-preserved : goal.loop-index-preserved
loop-index-preserved c =
    let inside : c.loop-index.index - 1 < length c.args.watches.now = omega (arith, c.loop-index.invariant.within) in
    absurd (one_there c.args.watches.now (c.loop-index.index - 1) inside (sym c.at.ensures ∙ c.in_default.is))
