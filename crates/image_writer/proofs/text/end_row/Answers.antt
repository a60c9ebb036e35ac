use Rattle.std.proofs.Common.{arith}
use Rattle.image_writer.proofs.Going.{ended_none, ended_some}
use Rattle.image_writer.proofs.text.end_row.Goals as goal

pub returns-then-len-eq0-clause-text : goal.returns-then-len-eq0-clause-text
returns-then-len-eq0-clause-text c =
    ended_none c.args.form c.args.address c.args.row.now.items c.args.out.now.items (omega (arith, c.if-len-eq0.true, c.len.ensures.value))

pub returns-clause-text : goal.returns-clause-text
returns-clause-text c =
    ended_some c.args.form c.args.address _ c.args.row.now.items _ c.args.out.now.items c.push_row.new.out.items c.in_ok-push_row.ensures
    c.as_slice.ensures.value (omega (arith, c.if-len-eq0.false, c.len.ensures.value)) (omega (arith, c.len-2.ensures.value))
