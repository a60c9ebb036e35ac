use Rattle.std.proofs.Common.{◌+◌, arith}
use Rattle.std.proofs.KnownBytes.{Appends-kept}
use Rattle.replies.proofs.Writing.{Appends-step, front_at}
use Rattle.replies.proofs.output.put.Goals as goal

pub returns-in-Ok-eq0-clause-writes : goal.returns-in-Ok-eq0-clause-writes
returns-in-Ok-eq0-clause-writes g c =
    let i = c.loop-done.done in
    let taken = rw c.in-Ok-eq0.field-0-test at c.in-Ok-eq0.ensures.bytes in
    front_at _ _ c.args.bytes.now (i + 0) (Appends-step _ _ _ c.args.bytes.now i 0 c.loop-done.invariant.written taken)

pub loop-done-preserved : goal.loop-done-preserved
loop-done-preserved g c = record {
  within = omega (arith, c.loop-done.invariant.within, c.in-Ok.ensures.bound);
  written = Appends-step _ _ _ c.args.bytes.now c.loop-done.done c.in-Ok.n c.loop-done.invariant.written c.in-Ok.ensures.bytes;
}

pub returns-in-Err-clause-writes : goal.returns-in-Err-clause-writes
returns-in-Err-clause-writes g c =
    front_at _ _ c.args.bytes.now c.loop-done.done (Appends-kept _ _ _ _ c.loop-done.invariant.written c.in-Err.ensures.bytes)
