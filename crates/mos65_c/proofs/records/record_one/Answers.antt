use Rattle.std.proofs.Common.{[], arith, subst, sym}
use Rattle.model.specs.Session.{Session}
use Rattle.page_data.specs.Runs.{IsRecorded}
use Rattle.page_data.proofs.Recording.{one_recorded}
use Rattle.mos65_c.proofs.Recorded.{one_short}
use Rattle.mos65_c.proofs.RunsOfOne.{did_one, made_one, none_made}
use Rattle.mos65_c.proofs.records.record_one.Goals as goal

pub returns-then-end-eq0-clause-told : goal.returns-then-end-eq0-clause-told
returns-then-end-eq0-clause-told c = λ start h.
    let all = c.run-end.ensures in
    let same = none_made c.args.session.now c.run-end.new.self c.run-end.result all.end all.after c.if-end-eq0.true in
    subst (λ (u : Session). IsRecorded start c.args.records.now.items u.current) (sym same) h

pub returns-clause-within : goal.returns-clause-within
returns-clause-within c =
    let all = c.run-end.ensures in
    let one = did_one c.args.session.now c.run-end.new.self c.run-end.result all.end all.after c.if-end-eq0.false in
    omega (arith, one)

pub returns-clause-told : goal.returns-clause-told
returns-clause-told c = λ start h.
    let all = c.run-end.ensures in
    let s = c.args.session.now in
    let made = made_one s c.run-end.new.self c.run-end.result all.end all.after c.if-end-eq0.false in
    one_recorded start s.current c.run-end.new.self.current c.args.records.now.items c.push_step.new.written.items made h
    (λ earlier stepped told. (c.in_ok-push_step.ensures.tells start s.current [] earlier c.look_ahead-ahead.ensures c.is_state.ensures stepped told).0)

pub returns-clause-short : goal.returns-clause-short
returns-clause-short c =
    let all = c.run-end.ensures in
    let s = c.args.session.now in
    let made = made_one s c.run-end.new.self c.run-end.result all.end all.after c.if-end-eq0.false in
    let one = did_one s c.run-end.new.self c.run-end.result all.end all.after c.if-end-eq0.false in
    one_short s.current c.run-end.new.self.current c.args.records.now.items c.push_step.new.written.items c.run-end.result.did c.is_state.ensures made one
    (c.in_ok-push_step.ensures.ok s.current c.look_ahead-ahead.ensures)
