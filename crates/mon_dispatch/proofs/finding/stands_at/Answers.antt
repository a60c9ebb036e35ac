use Rattle.mon_dispatch.proofs.Found.{byte_other, byte_same, bytes_over}
use Rattle.mon_dispatch.proofs.finding.stands_at.Goals as goal

pub returns-then-peek-byte : goal.returns-then-peek-byte
returns-then-peek-byte c = byte_other _ _ c.loop-byte.byte-index c.loop-byte.at c.peek.result _ c.loop-byte.invariant
    c.loop-byte-test.true c.peek.ensures.value c.if-peek-byte.true

pub loop-byte-preserved : goal.loop-byte-preserved
loop-byte-preserved c = byte_same _ _ c.loop-byte.byte-index c.loop-byte.at c.peek.result _ c.loop-byte.invariant
    c.loop-byte-test.true c.peek.ensures.value c.if-peek-byte.false

pub returns : goal.returns
returns c = bytes_over _ _ c.loop-byte.byte-index c.loop-byte.at _ c.loop-byte.invariant c.loop-byte-test.false
