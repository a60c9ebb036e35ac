use Rattle.std.proofs.Common.{arith}
use Rattle.mon_files.proofs.Again.{gone, gone_course, gone_history, gone_length, gone_oldest}
use Rattle.mon_files.proofs.held.undo_all.Goals as goal

pub returns-clause-course : goal.returns-clause-course
returns-clause-course c =
    let s = c.args.mon.now.session in
    let back = gone c.args.held c.back.result s c.back.new.self (omega (arith, c.requires)) c.back.ensures.ok c.back.ensures.err in
    gone_course c.args.held s c.back.new.self c.requires back c.args.mon.now.events c.note_undone.new.self c.note_undone.ensures

pub returns-clause-oldest : goal.returns-clause-oldest
returns-clause-oldest c =
    let s = c.args.mon.now.session in
    gone_oldest c.args.held s c.back.new.self c.requires (gone c.args.held c.back.result s c.back.new.self (omega (arith, c.requires))
    c.back.ensures.ok c.back.ensures.err)

pub returns-clause-none : goal.returns-clause-none
returns-clause-none c =
    let s = c.args.mon.now.session in
    gone_length c.args.held s c.back.new.self c.requires (gone c.args.held c.back.result s c.back.new.self (omega (arith, c.requires))
    c.back.ensures.ok c.back.ensures.err)

pub returns-clause-history : goal.returns-clause-history
returns-clause-history c =
    let s = c.args.mon.now.session in
    gone_history c.args.held s c.back.new.self c.requires (gone c.args.held c.back.result s c.back.new.self (omega (arith, c.requires))
    c.back.ensures.ok c.back.ensures.err)
