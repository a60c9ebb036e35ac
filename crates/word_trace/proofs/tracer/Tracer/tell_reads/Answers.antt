use Rattle.word_trace.proofs.Noting.{reads_gathered, same_number, same_sites}
use Rattle.word_trace.proofs.tracer.Tracer.tell_reads.Goals as goal

pub returns-clause-text : goal.returns-clause-text
returns-clause-text c =
    let old = c.args.self.now in
    let ran = c.tell_unwritten-2.new.self in
    let ok = c.in_ok-tell_unwritten.ensures in
    reads_gathered c.args.is_entry c.args.session.now.current old.sites ran.sites old.all.visits ran.all.visits c.args.ahead.now old.written
    ran.written c.code_of.result.items
    c.tell_unwritten-3.result old.sheet.text.items ran.sheet.text.items _
    c.if-is_entry.false (same_sites old ran _ c.tell_unwritten-2.ensures.rest) (same_number old ran _ c.tell_unwritten-2.ensures.rest) ok.written
    c.code_of.ensures ok.text c.tell_unwritten-3.ensures.text
