use Rattle.image_writer.proofs.Records.{record_done}
use Rattle.image_writer.proofs.record.push_record.Goals as goal

pub returns : goal.returns
returns c =
    record_done c.extend_from_slice-2.result c.args.wanted_total c.checksum.result c.args.mark.now c.args.head.now c.args.bytes.now
    c.args.out.now.items c.extend_from_slice.new.self.items c.push_all_digits.new.out.items c.push_all_digits-2.new.out.items
    c.push_digits.new.out.items c.extend_from_slice-2.new.self.items
    c.checksum.ensures c.in_ok-extend_from_slice.ensures.items c.in_ok-push_all_digits.ensures c.in_ok-push_all_digits-2.ensures
    c.in_ok-push_digits.ensures c.extend_from_slice-2.ensures.items
