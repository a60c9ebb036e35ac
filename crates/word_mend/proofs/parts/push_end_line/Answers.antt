use Rattle.std.proofs.Common.{refl, ◌+◌, ◌/◌, ◌%◌}
use Rattle.word_mend.proofs.Appended.{end_text}
use Rattle.word_mend.proofs.parts.push_end_line.Goals as goal

pub returns : goal.returns
returns c =
    let n = c.args.count in
    end_text c.extend_from_slice.result n (n / 256 + n % 256) c.args.out.now.items c.push.new.self.items c.push_byte.new.out.items
    c.push_byte-2.new.out.items c.push_byte-3.new.out.items c.push_byte-4.new.out.items c.push_byte-5.new.out.items c.extend_from_slice.new.self.items
    refl c.ranges.count.fits c.in_ok-push.ensures.items c.in_ok-push_byte.ensures c.in_ok-push_byte-2.ensures c.in_ok-push_byte-3.ensures
    c.in_ok-push_byte-4.ensures c.in_ok-push_byte-5.ensures c.extend_from_slice.ensures.items
