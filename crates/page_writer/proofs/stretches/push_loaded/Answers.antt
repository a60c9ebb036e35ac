use Rattle.std.proofs.Common.{arith}
use Rattle.page_writer.proofs.LoadedBytes.{all_told}
use Rattle.page_writer.proofs.stretches.push_loaded.Goals as goal

pub returns : goal.returns
returns c =
    all_told c.push_stretch.result 65536 c.loop-address.text.items c.push_stretch.new.text.items _ c.loop-address.address c.loop-address.len c.args.written.now
    (omega (arith, c.loop-address-test.false, c.loop-address.auto.address-end)) c.has_marks.ensures c.loop-address.invariant.told c.push_stretch.ensures
