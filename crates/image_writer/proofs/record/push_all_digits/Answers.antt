use Rattle.std.proofs.Common.{◌≡◌, ◌+◌, ◌<◌, ◌∷◌, ◌++◌, refl, drop, length, slice_index, drop-cons, add-one}
use Rattle.hex.specs.Hex.{encode_upper}
use Rattle.papertape.proofs.Texts.{pushed_byte, pushed_all}
use Rattle.image_writer.proofs.record.push_all_digits.Goals as goal

pub loop-byte-preserved : goal.loop-byte-preserved
loop-byte-preserved c =
    let bytes = c.args.bytes.now in
    let i = c.loop-byte.byte-index in
    let below : i < length bytes = c.loop-byte-test.true in
    let e : drop i bytes ≡ slice_index bytes i ∷ drop (i + 1) bytes = rw (add-one, drop-cons bytes i 0) refl in
    pushed_byte bytes (c.args.out.now.items ++ encode_upper bytes) c.loop-byte.out.items c.push_digits.new.out.items (slice_index bytes i) i
    (drop (i + 1) bytes) e c.loop-byte.invariant c.in_ok-push_digits.ensures

pub returns : goal.returns
returns c =
    let bytes = c.args.bytes.now in
    let i = c.loop-byte.byte-index in
    pushed_all bytes c.loop-byte.out.items (c.args.out.now.items ++ encode_upper bytes) i c.loop-byte-test.false c.loop-byte.invariant
