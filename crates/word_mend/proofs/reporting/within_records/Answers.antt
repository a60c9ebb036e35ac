use Rattle.std.proofs.Common.{◌<◌, length, arith, sym, ◌∙◌}
use Rattle.word_mend.proofs.Found.{after_begin, after_data, after_skipped, none_within}
use Rattle.word_mend.proofs.reporting.within_records.Goals as goal
use Rattle.word_mend.proofs.reporting.within_records.Goals.{then-is_kept+then-byte-ne59, then-is_kept+else-byte-ne59, else-is_kept}

pub loop-byte-preserved : goal.loop-byte-preserved
loop-byte-preserved c =
    let few = c.loop-byte.invariant.few in
    let there : c.loop-byte.byte-index < length c.args.text.now = omega (arith, c.loop-byte-test.true) in
    let is = sym c.is_kept.ensures in
    elim c.if-is_kept.branch [
      | then-is_kept+then-byte-ne59 w ↦ record {
        few = omega (arith, few, w.within-is, w.skipped-is);
        rest = after_data c.args.text.now c.loop-byte.byte-index c.loop-byte.within c.loop-byte.skipped _ there c.loop-byte.invariant.rest _ _
            (is ∙ w.if-is_kept.true) w.if-byte-ne59.true w.within-is w.skipped-is;
      }
      | then-is_kept+else-byte-ne59 w ↦ record {
        few = omega (arith, few, w.within-is, w.skipped-is);
        rest = after_begin c.args.text.now c.loop-byte.byte-index c.loop-byte.within c.loop-byte.skipped _ there c.loop-byte.invariant.rest _ _
            (is ∙ w.if-is_kept.true) w.if-byte-ne59.false w.within-is w.skipped-is;
      }
      | else-is_kept w ↦ record {
        few = omega (arith, few, w.within-is, w.skipped-is);
        rest = after_skipped c.args.text.now c.loop-byte.byte-index c.loop-byte.within c.loop-byte.skipped _ there c.loop-byte.invariant.rest _ _
            (is ∙ w.if-is_kept.false) w.within-is w.skipped-is;
      }
    ]

pub returns : goal.returns
returns c = none_within c.args.text.now c.loop-byte.byte-index c.loop-byte.within c.loop-byte.skipped _ (omega (arith, c.loop-byte-test.false))
    c.loop-byte.invariant.rest
