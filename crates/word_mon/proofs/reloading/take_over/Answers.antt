use Rattle.word_mon.proofs.Again.{reloads}
use Rattle.word_mon.proofs.reloading.take_over.Goals as goal

pub returns-in-Ok : goal.returns-in-Ok
returns-in-Ok c =
    let begun = c.put_started.ensures in
    reloads c.args.terminal.now c.put_started.new.terminal c.args.started.mon c.serve_again.new.mon c.args.started.loaded c.as_slice-text.result.now
    c.args.started.warning_line.items c.as_slice-line.result.now c.as_slice-notes.result.now c.in-Ok.left.items
    c.requires c.as_slice-text.ensures.value c.as_slice-line.ensures.value c.as_slice-notes.ensures.value (c.in-Ok.ensures c.requires.9.text)
    begun.mon begun.loaded begun.notes begun.view begun.words
