use Rattle.std.proofs.Common.{ap, ◌++◌, ◌∷◌, ◌+◌, ◌/◌, ◌%◌}
use Rattle.model.specs.TapeText.{line, word}
use Rattle.papertape.proofs.Texts.{record_text, ended}
use Rattle.papertape.proofs.record.write_record.Goals as goal

pub returns : goal.returns
returns c =
    let text = record_text c.args.count c.args.number _ c.args.bytes.now c.args.out.now.items c.extend_from_slice.new.self.items
    c.push_byte.new.out.items c.push_word.new.out.items c.push_bytes.new.out.items c.push_word-2.new.out.items
    (ap (λ s. (c.args.count + c.args.number / 256 + c.args.number % 256 + s) % 65536) c.total.ensures) c.in_ok-extend_from_slice.ensures.items
    c.in_ok-push_byte.ensures c.in_ok-push_word.ensures c.in_ok-push_bytes.ensures c.in_ok-push_word-2.ensures in
    ended c.extend_from_slice-2.result c.push_word-2.new.out.items c.extend_from_slice-2.new.self.items
    (c.args.out.now.items ++ line (c.args.count ∷ word c.args.number ++ c.args.bytes.now)) c.extend_from_slice-2.ensures.items text
