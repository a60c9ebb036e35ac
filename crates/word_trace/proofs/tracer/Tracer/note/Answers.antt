use Rattle.word_trace.specs.Gathered.{gathered, text_of_step}
use Rattle.word_trace.proofs.Gathering.{row_cut, row_gathered, row_noted}
use Rattle.word_trace.proofs.tracer.Tracer.note.Goals as goal

pub returns-clause-noted : goal.returns-clause-noted
returns-clause-noted g c =
    row_noted c.gather-row.result c.end_row.result _ c.gather-row.ensures.noted c.end_row.ensures.memory

pub returns-clause-gathered : goal.returns-clause-gathered
returns-clause-gathered g c =
    row_gathered c.gather-row.result c.end_row.result (g.O.Write.contents c.args.output.now) (g.O.Write.contents c.end_row.new.output)
    c.args.self.now.sheet.text.items c.gather-row.new.self.sheet.text.items c.end_row.new.self.text.items
    (text_of_step c.args.session.now.current c.args.ahead (gathered c.args.self.now)) c.gather-row.ensures.text c.end_row.ensures.memory
    c.end_row.ensures.gathered

pub returns-clause-cut : goal.returns-clause-cut
returns-clause-cut g c =
    row_cut g.O.Write.contents c.gather-row.result c.end_row.result c.args.output.now c.end_row.new.output
    c.args.self.now.sheet.text.items c.gather-row.new.self.sheet.text.items
    (text_of_step c.args.session.now.current c.args.ahead (gathered c.args.self.now)) c.gather-row.ensures.text c.end_row.ensures.memory_output
    c.end_row.ensures.cut
