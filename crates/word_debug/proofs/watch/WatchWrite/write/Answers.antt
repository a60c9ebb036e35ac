use Rattle.std.proofs.Common.{take}
use Rattle.word_debug.specs.Told.{held_first}
use Rattle.word_debug.proofs.Telling.{told_more}
use Rattle.word_debug.proofs.watch.WatchWrite.write.Goals as goal

pub returns-clause-bytes : goal.returns-clause-bytes
returns-clause-bytes g c =
    let old = c.args.self.now in
    rw c.hear.ensures (told_more (held_first g.W.Write.contents old.first.items) (g.W.Write.contents old.inner) (g.W.Write.contents c.write.new.self)
    old.heard.told.items (take c.in_ok-count.count c.args.buf.now) c.in_ok-count.ensures.bytes)
