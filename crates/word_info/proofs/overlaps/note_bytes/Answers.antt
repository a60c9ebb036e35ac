use Rattle.std.proofs.Common.{arith, ◌-◌}
use Rattle.word_info.specs.Overlaps.{with_bytes}
use Rattle.word_info.proofs.Noted.{all_noted, none_noted, one_noted}
use Rattle.word_info.proofs.overlaps.note_bytes.Goals as goal

pub loop-address-init : goal.loop-address-init
loop-address-init c = λ n noted. none_noted c.args.once.now c.args.again.now n c.args.first noted

pub loop-address-preserved : goal.loop-address-preserved
loop-address-preserved c = λ n noted.
    one_noted c.note_byte.new.once c.note_byte.new.again n c.args.first c.loop-address.address (omega arith)
    (c.note_byte.ensures (with_bytes n c.args.first (c.loop-address.address - c.args.first)) (c.loop-address.invariant n noted))

pub returns : goal.returns
returns c = λ n noted. all_noted c.loop-address.once c.loop-address.again n c.args.first c.loop-address.address c.args.past (omega arith)
    (c.loop-address.invariant n noted)
