use Rattle.std.proofs.Common.{◌+◌, arith}
use Rattle.std.proofs.KnownBytes.{Appends-kept}
use Rattle.json_messages.proofs.Pieces.{Appends-step, front_at}
use Rattle.json_messages.proofs.framed.put.Goals as goal
use Rattle.json_messages.proofs.framed.put.Goals.{in-Ok, in-Err+else-ne}

pub returns-in-Ok-eq0-clause-written : goal.returns-in-Ok-eq0-clause-written
returns-in-Ok-eq0-clause-written g c =
    let i = c.loop.done in
    let taken = rw c.in-Ok-eq0.field-0-test at c.in-Ok-eq0.ensures.bytes in
    front_at _ _ c.args.bytes.now (i + 0) (Appends-step _ _ _ c.args.bytes.now i 0 c.loop.invariant.written taken)

pub returns-then-ne-clause-written : goal.returns-then-ne-clause-written
returns-then-ne-clause-written g c =
    front_at _ _ c.args.bytes.now c.loop.done (Appends-kept _ _ _ _ c.loop.invariant.written c.in-Err.ensures.bytes)

pub loop-preserved : goal.loop-preserved
loop-preserved g c =
    elim c.match-write.branch [
      | in-Ok w ↦ rw w.done-is (record {
        within = omega (arith, c.loop.invariant.within, w.in-Ok.ensures.bound);
        written = Appends-step _ _ _ c.args.bytes.now c.loop.done w.in-Ok.n c.loop.invariant.written w.in-Ok.ensures.bytes;
      })
      | in-Err+else-ne w ↦ rw w.done-is (record {
        within = c.loop.invariant.within;
        written = Appends-kept _ _ _ _ c.loop.invariant.written w.in-Err.ensures.bytes;
      })
    ]

pub returns-clause-written : goal.returns-clause-written
returns-clause-written g c = front_at _ _ c.args.bytes.now c.loop.done c.loop.invariant.written
