use Rattle.image_writer.proofs.Records.{checksum_of}
use Rattle.image_writer.proofs.record.checksum.Goals as goal

pub returns : goal.returns
returns c = checksum_of c.args.wanted_total c.args.head.now c.args.bytes.now c.total.result c.total-2.result c.total.ensures c.total-2.ensures
