use Rattle.std.proofs.Common.{arith, ◌+◌}
use Rattle.image_writer.proofs.Going.{byte_taken, few_row, last_result, no_row}
use Rattle.image_writer.proofs.text.take_byte.Goals as goal

pub returns-then-count-lt15-clause-text : goal.returns-then-count-lt15-clause-text
returns-then-count-lt15-clause-text c = λ cells.
    byte_taken c.args.form c.args.address c.args.byte c.args.row.now.items c.push.new.self.items c.args.out.now.items cells
    (λ e. omega (arith, e, c.if-count-lt15.true, c.len-count.ensures.value)) c.push.ensures.items

pub returns-clause-text : goal.returns-clause-text
returns-clause-text c =
    last_result c.end_row.result c.args.form c.args.address c.args.byte c.args.row.now.items c.push.new.self.items c.end_row.new.row.items
    c.args.out.now.items c.end_row.new.out.items
    (omega (arith, c.if-count-lt15.false, c.len-count.ensures.value, c.requires.few)) c.push.ensures.items c.end_row.ensures.text c.end_row.ensures.none

pub returns-clause-few : goal.returns-clause-few
returns-clause-few c = few_row c.end_row.result c.end_row.new.row.items c.end_row.ensures.none

pub returns-clause-after : goal.returns-clause-after
returns-clause-after c = no_row c.end_row.result (c.args.address + 1) c.end_row.new.row.items c.end_row.ensures.none
