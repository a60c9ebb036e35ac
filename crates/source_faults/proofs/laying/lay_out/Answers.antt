use Rattle.std.proofs.Common.{ap, arith, refl, sym, true-eqb, ◌∙◌}
use Rattle.model.specs.Layout.{Context}
use Rattle.source_faults.specs.Views.{before_line, mending_of}
use Rattle.source_faults.proofs.LayoutOfLines.{counted, done, ends, fixed_done, fixed_end, fixed_on, fixed_starts, goes_on, one_numbered, starts}
use Rattle.source_faults.proofs.laying.lay_out.Goals as goal

pub loop-rest-init : goal.loop-rest-init
loop-rest-init c = record {
  found = rw c.new-found.ensures.items (starts (mending_of c.args.mending) c.args.profile c.args.symbols.now c.args.source.now c.requires.empty);
  fixed = fixed_starts (mending_of c.args.mending) c.args.profile c.args.symbols.now c.args.source.now c.requires.empty;
  numbered = rw c.new-found.ensures.items tt;
  count = rw c.new-found.ensures.items refl;
  room = omega (arith, c.requires.size);
  near = omega (arith, c.requires.size);
}

pub loop-rest-preserved : goal.loop-rest-preserved
loop-rest-preserved c =
    let e = c.in_ok-laid.ensures.exact in
    record {
      found = rw c.in_ok-push.ensures.items
          (goes_on (mending_of c.args.mending) c.args.profile (before_line c.args.profile c.loop-rest.address c.loop-rest.symbols)
          (before_line c.args.profile c.in_ok-laid.laid.next c.lay_line.new.symbols)
          c.loop-rest.found.items c.in_ok-laid.laid.found c.loop-rest.rest.now c.next_line.result.0.now c.next_line.result.1.now _
          c.next_line.ensures.cut (sym e.end ∙ c.if-ended.false) e.found e.fixed c.loop-rest.invariant.found);
      fixed = fixed_on (mending_of c.args.mending) c.args.profile (before_line c.args.profile c.loop-rest.address c.loop-rest.symbols)
          (before_line c.args.profile c.in_ok-laid.laid.next c.lay_line.new.symbols)
          c.loop-rest.rest.now c.next_line.result.0.now c.next_line.result.1.now _ c.next_line.ensures.cut (sym e.end ∙ c.if-ended.false) e.fixed
          c.loop-rest.invariant.fixed;
      numbered = one_numbered c.loop-rest.found.items c.push.new.self.items c.in_ok-laid.laid.found c.loop-rest.number c.in_ok-push.ensures.items
          c.loop-rest.invariant.count c.loop-rest.invariant.numbered c.in_ok-laid.ensures.numbered;
      count = counted c.loop-rest.found.items c.push.new.self.items c.in_ok-laid.laid.found c.loop-rest.number c.in_ok-push.ensures.items
          c.loop-rest.invariant.count;
      room = omega (arith, c.next_line.ensures.shorter, c.loop-rest.invariant.room);
      near = omega (
        arith,
        c.next_line.ensures.shorter,
        c.in_ok-laid.ensures.near,
        c.loop-rest.invariant.room,
        c.loop-rest.invariant.count,
        c.loop-rest.invariant.near,
      );
    }

pub returns-then-ended-clause-found : goal.returns-then-ended-clause-found
returns-then-ended-clause-found c =
    let e = c.in_ok-laid.ensures.exact in
    rw c.in_ok-push.ensures.items
    (ends (mending_of c.args.mending) c.args.profile (before_line c.args.profile c.loop-rest.address c.loop-rest.symbols) c.loop-rest.found.items
    c.in_ok-laid.laid.found c.loop-rest.rest.now
    c.next_line.result.0.now c.next_line.result.1.now _ c.next_line.ensures.cut (sym e.end ∙ c.if-ended.true) e.found c.loop-rest.invariant.found)

pub returns-then-ended-clause-names : goal.returns-then-ended-clause-names
returns-then-ended-clause-names c =
    let e = c.in_ok-laid.ensures.exact in
    ap (λ (x : Context). x.names)
    (fixed_end (mending_of c.args.mending) c.args.profile (before_line c.args.profile c.loop-rest.address c.loop-rest.symbols)
    (before_line c.args.profile c.in_ok-laid.laid.next c.lay_line.new.symbols)
    c.loop-rest.rest.now c.next_line.result.0.now c.next_line.result.1.now _ c.next_line.ensures.cut (sym e.end ∙ c.if-ended.true) e.fixed
    c.loop-rest.invariant.fixed)

pub returns-clause-found : goal.returns-clause-found
returns-clause-found c =
    done (mending_of c.args.mending) c.args.profile (before_line c.args.profile c.loop-rest.address c.loop-rest.symbols) c.loop-rest.found.items
    c.loop-rest.rest.now _
    (true-eqb _ 0 c.loop-rest-test.ensures) c.loop-rest.invariant.found

pub returns-clause-names : goal.returns-clause-names
returns-clause-names c =
    ap (λ (x : Context). x.names)
    (fixed_done (mending_of c.args.mending) c.args.profile (before_line c.args.profile c.loop-rest.address c.loop-rest.symbols) c.loop-rest.rest.now _
    (true-eqb _ 0 c.loop-rest-test.ensures) c.loop-rest.invariant.fixed)

pub returns-then-ended-clause-numbered : goal.returns-then-ended-clause-numbered
returns-then-ended-clause-numbered c =
    one_numbered c.loop-rest.found.items c.push.new.self.items c.in_ok-laid.laid.found c.loop-rest.number c.in_ok-push.ensures.items
    c.loop-rest.invariant.count c.loop-rest.invariant.numbered c.in_ok-laid.ensures.numbered
