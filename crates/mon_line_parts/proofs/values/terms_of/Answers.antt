use Rattle.std.proofs.Common.{◌∙◌, ◌-◌, ◌+◌, sym, ap, arith, rules, length, ℤ}
use Rattle.std.proofs.lemmas.Int.{to_z-of_z}
use Rattle.std.specs.Int.{w64}
use mir.Val.{SFits}
use Rattle.mon_line_parts.specs.Values.{terms_of}
use Rattle.mon_line_parts.proofs.Sums.{no_sign, no_term_left, term_read, term_refused}
use Rattle.mon_line_parts.proofs.values.terms_of.Goals as goal

pub returns-then-not-is_sign-clause-ok : goal.returns-then-not-is_sign-clause-ok
returns-then-not-is_sign-clause-ok c =
    let fits : SFits w64 c.args.first = c.ranges.first in
    let h = simp to_z-of_z at c.loop.invariant.read in
    h ∙ no_sign (length c.args.text.now - c.loop.counter) _ _ _ _ (sym c.is_sign.ensures ∙ c.if-not-is_sign.true)

pub returns-in-Err-clause-err : goal.returns-in-Err-clause-err
returns-in-Err-clause-err c =
    let fits : SFits w64 c.args.first = c.ranges.first in
    let h = simp to_z-of_z at c.loop.invariant.read in
    h ∙ term_refused (length c.args.text.now - c.loop.counter) (length c.args.text.now - (c.loop.counter + 1)) _ _ _ _ _ (omega arith)
    (sym c.is_sign.ensures ∙ c.if-not-is_sign.false) c.in-Err.ensures.err

pub loop-preserved : goal.loop-preserved
loop-preserved c =
    let fits : SFits w64 c.in-Ok.sum = search rules in
    record {
      read = c.loop.invariant.read
          ∙ (term_read (length c.args.text.now - c.loop.counter) (length c.args.text.now - (c.loop.counter + 1)) c.args.places.now c.args.kind _
          c.in-Ok.sum c.loop.rest.now c.in-Ok.behind.now (omega arith) (sym c.is_sign.ensures ∙ c.if-not-is_sign.false) c.in-Ok.ensures.ok
          ∙ sym (ap (λ (z : ℤ). terms_of (length c.args.text.now - (c.loop.counter + 1)) c.args.places.now c.args.kind z c.in-Ok.behind.now)
          (to_z-of_z w64 c.in-Ok.sum fits)));
    }

pub returns-clause-ok : goal.returns-clause-ok
returns-clause-ok c =
    let fits : SFits w64 c.args.first = c.ranges.first in
    let h = simp to_z-of_z at c.loop.invariant.read in
    h ∙ no_term_left (length c.args.text.now - c.loop.counter) _ _ _ _ (omega arith)
