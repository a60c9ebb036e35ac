use Rattle.std.proofs.Common.{length}
use Rattle.papertape.proofs.Digits.{decode_sized-digits}
use Rattle.image_reader.proofs.record.decode.Goals as goal

pub returns : goal.returns
returns c =
    let r = rw (decode_sized-digits c.args.digits.now (length c.args.bytes.now) c.requires.room c.requires.hex) at c.decode_to_slice.ensures.value in
    r.1
