use Rattle.std.proofs.Common.{◌∙◌, ◌-◌, ap}
use Rattle.word_trace.proofs.Noting.{step_gathered}
use Rattle.word_trace.proofs.tracer.Tracer.gather.Goals as goal

pub returns-clause-text : goal.returns-clause-text
returns-clause-text c =
    step_gathered c.args.session.now.current c.args.ahead c.args.self.now c.count.new.self c.tell_reads.new.self c.note_stores.new.self
    c.was_entered-is_entry.result c.saturating_sub-cycles.result _ _
    c.left_at-stores.result.items c.push_row.result _
    c.was_entered-is_entry.ensures.value (c.saturating_sub-cycles.ensures ∙ ap (λ n. n - c.args.ahead.moment.cycles) c.cycles.ensures)
    c.count.ensures.counted c.count.ensures.sheet
    c.tell_reads.ensures.rest c.in_ok-tell_reads.ensures.text c.note_stores.ensures.marked c.note_stores.ensures.sheet c.left_at-stores.ensures
    c.push_row.ensures.text
