use Rattle.std.proofs.Common.{ap, ◌∙◌}
use Rattle.word_debug.specs.Seen.{seen_in}
use Rattle.word_debug.specs.Told.{held_first}
use Rattle.word_debug.proofs.Telling.{passed}
use Rattle.word_debug.proofs.watch.Watch.finish.Goals as goal

pub returns-clause-passed : goal.returns-clause-passed
returns-clause-passed g c held text wrote =
    let w = c.args.self in
    let went = passed held (held_first g.W.Write.contents w.first.items) (g.W.Write.contents w.inner) w.heard.told.items text wrote in
    (ap (λ s. s.has_fault) (w.heard.right ∙ ap seen_in went.0), went.1)
