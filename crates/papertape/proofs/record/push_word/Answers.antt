use Rattle.papertape.proofs.Texts.{pushed_word}
use Rattle.papertape.proofs.record.push_word.Goals as goal

pub returns : goal.returns
returns c = pushed_word c.push_byte-2.result c.args.out.now.items c.push_byte.new.out.items c.push_byte-2.new.out.items c.args.number
    c.in_ok-push_byte.ensures c.push_byte-2.ensures
