use Rattle.std.proofs.Common.{◌+◌, ◌-◌, sym, ◌∙◌, arith}
use Rattle.emission.proofs.Ports.{has_bytes_met, has_bytes_none, has_bytes_next}
use Rattle.emission.proofs.emit.has_bytes.Goals as goal

pub returns-then-has_byte : goal.returns-then-has_byte
returns-then-has_byte c =
    sym (has_bytes_met c.args.image.now (c.args.address + c.loop-i.i) (c.args.count - c.loop-i.i) (omega arith) (sym c.has_byte.ensures ∙ c.if-has_byte.true))
    ∙ c.loop-i.invariant

pub loop-i-preserved : goal.loop-i-preserved
loop-i-preserved c =
    sym (has_bytes_next c.args.image.now c.args.address c.args.count c.loop-i.i (omega arith) (sym c.has_byte.ensures ∙ c.if-has_byte.false))
    ∙ c.loop-i.invariant

pub returns : goal.returns
returns c =
    sym (has_bytes_none c.args.image.now (c.args.address + c.loop-i.i) (c.args.count - c.loop-i.i) (omega arith)) ∙ c.loop-i.invariant
