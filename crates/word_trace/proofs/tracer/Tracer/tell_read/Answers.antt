use Rattle.std.proofs.Common.{◌≡◌, ◌∙◌, ◌++◌, OnOk, ap, subst, sym}
use Rattle.trace_rows.specs.Findings.{finding_row}
use Rattle.word_trace.specs.Gathered.{Gathered}
use Rattle.word_trace.specs.declared.sheet.Sheet.{Sheet}
use Rattle.word_trace.proofs.Gathering.{ok_always, ok_then}
use Rattle.word_trace.proofs.Noting.{none_told, one_told, same_sites}
use Rattle.word_trace.proofs.Telling.{with_told_not, with_told_yes}
use Rattle.word_trace.proofs.tracer.Tracer.tell_read.Goals as goal

pub returns-then-not-is_told-clause-written : goal.returns-then-not-is_told-clause-written
returns-then-not-is_told-clause-written c =
    sym (with_told_not c.args.session.now.current.bus.map c.args.self.now.written c.args.finding.address (sym c.is_told.ensures ∙ c.if-not-is_told.true))

pub returns-then-not-is_told-clause-text : goal.returns-then-not-is_told-clause-text
returns-then-not-is_told-clause-text c =
    none_told c.args.session.now.current c.args.self.now.sites c.args.moment.now c.args.finding c.args.self.now.written _
    (sym c.is_told.ensures ∙ c.if-not-is_told.true)

pub returns-clause-written : goal.returns-clause-written
returns-clause-written c =
    ok_always c.push_finding.result _ (ap (λ (g : Gathered). g.written) c.note_written.ensures.marked
    ∙ sym (with_told_yes c.args.session.now.current.bus.map c.args.self.now.written c.args.finding.address (sym c.is_told.ensures ∙ c.if-not-is_told.false)))

pub returns-clause-text : goal.returns-clause-text
returns-clause-text c =
    let r = c.push_finding.result in
    let state = c.args.session.now.current in
    let moment = c.args.moment.now in
    let finding = c.args.finding in
    let old = c.args.self.now in
    let noted = c.note_written.new.self in
    let after = c.push_finding.new.text.items in
    let there = subst (λ s. OnOk r (after ≡ old.sheet.text.items ++ finding_row state s moment finding)) (same_sites old noted _ c.note_written.ensures.marked)
    (subst (λ (s : Sheet). OnOk r (after ≡ s.text.items ++ finding_row state noted.sites moment finding)) c.note_written.ensures.sheet
    c.push_finding.ensures) in
    ok_then r _ _ (one_told state old.sites moment finding old.written old.sheet.text.items after (sym c.is_told.ensures ∙ c.if-not-is_told.false)) there
