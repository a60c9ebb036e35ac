use Rattle.std.proofs.Common.{arith}
use Rattle.debug_files.proofs.Bytes.{all_taken, byte_taken, none_taken}
use Rattle.debug_files.proofs.loaded.bytes_of.Goals as goal

pub loop-place-init : goal.loop-place-init
loop-place-init c = record {
  few = omega arith;
  taken = none_taken c.args.session.now.current c.args.loaded.now c.in_ok-image.image c.in_ok-image.ensures.image;
}

pub loop-place-preserved : goal.loop-place-preserved
loop-place-preserved c = record {
  few = omega (arith, c.loop-place-test.true);
  taken = byte_taken c.args.session.now.current c.args.loaded.now c.loop-place.image c.put_byte.new.image c.loop-place.place c.loop-place-test.true
      c.put_byte.ensures c.loop-place.invariant.taken;
}

pub returns-clause-image : goal.returns-clause-image
returns-clause-image c = all_taken c.args.session.now.current c.args.loaded.now c.loop-place.image c.loop-place.place
    (omega (arith, c.loop-place-test.false, c.loop-place.invariant.few)) c.loop-place.invariant.taken
