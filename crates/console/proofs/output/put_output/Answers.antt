use Rattle.std.proofs.Common.{◌<◌, ◌++◌, ◌∷◌, [], arith, length, get_or}
use Rattle.std.proofs.KnownBytes.{Appends-trans}
use Rattle.model.proofs.Written.{front_after, front_more}
use Rattle.console.proofs.Outputs.{out_more}
use Rattle.console.proofs.output.put_output.Goals as goal

pub returns-in-Err-clause-writes : goal.returns-in-Err-clause-writes
returns-in-Err-clause-writes g c =
    let out = c.args.session.now.current.bus.out in let i = c.loop-index.index in
    let inv = c.loop-index.invariant in
    let inside : i < length out = omega arith in
    let part = rw c.output_byte.ensures at c.in-Err.ensures.writes in
    rw (out_more out inv.0 c.args.from i inside inv.2)
    (front_more _ _ (inv.0 ++ get_or out i 0 ∷ []) _ (front_after _ _ _ inv.0 (get_or out i 0 ∷ []) inv.1 part))

pub loop-index-preserved : goal.loop-index-preserved
loop-index-preserved g c =
    let out = c.args.session.now.current.bus.out in let i = c.loop-index.index in
    let inv = c.loop-index.invariant in
    let inside : i < length out = omega arith in
    let part = rw c.output_byte.ensures at c.in-Ok.ensures.writes in
    (inv.0 ++ get_or out i 0 ∷ [], Appends-trans _ _ _ inv.0 (get_or out i 0 ∷ []) inv.1 part, out_more out inv.0 c.args.from i inside inv.2)
