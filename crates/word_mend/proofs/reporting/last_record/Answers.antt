use Rattle.std.proofs.Common.{◌<◌, length, arith, ◌∙◌}
use Rattle.word_mend.proofs.Found.{found_last, from_start, one_more, the_same}
use Rattle.word_mend.proofs.reporting.last_record.Goals as goal
use Rattle.word_mend.proofs.reporting.last_record.Goals.{then-byte-eq59, else-byte-eq59}

pub loop-place-init : goal.loop-place-init
loop-place-init c = record { last = omega arith; rest = from_start c.args.bytes.now }

pub loop-place-preserved : goal.loop-place-preserved
loop-place-preserved c =
    let few = c.loop-place.invariant.last in
    let there : c.loop-place.place < length c.args.bytes.now = omega (arith, c.loop-place-test.true) in
    elim c.if-byte-eq59.branch [
      | then-byte-eq59 w ↦ record {
        last = omega (arith, few, w.last-is);
        rest = one_more c.args.bytes.now c.loop-place.place c.loop-place.last _ there c.loop-place.invariant.rest _ w.if-byte-eq59.true w.last-is;
      }
      | else-byte-eq59 w ↦ record {
        last = omega (arith, few, w.last-is);
        rest = the_same c.args.bytes.now c.loop-place.place c.loop-place.last _ there c.loop-place.invariant.rest _ w.if-byte-eq59.false w.last-is;
      }
    ]

pub returns : goal.returns
returns c = c.split_at.ensures.back ∙ found_last c.args.bytes.now c.loop-place.place c.loop-place.last _ (omega (arith, c.loop-place-test.false))
    c.loop-place.invariant.rest
