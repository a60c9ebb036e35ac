use Rattle.std.proofs.Common.{◌+◌}
use Rattle.image_writer.proofs.Going.{few_row, no_row, none_result, some_result}
use Rattle.image_writer.proofs.text.take_cell.Goals as goal

pub returns-in-None-clause-text : goal.returns-in-None-clause-text
returns-in-None-clause-text c =
    none_result c.end_row.result c.args.form c.args.address c.args.cell c.args.row.now.items c.end_row.new.row.items c.args.out.now.items
    c.end_row.new.out.items c.in-None.is c.end_row.ensures.text c.end_row.ensures.none

pub returns-in-None-clause-few : goal.returns-in-None-clause-few
returns-in-None-clause-few c = few_row c.end_row.result c.end_row.new.row.items c.end_row.ensures.none

pub returns-in-None-clause-after : goal.returns-in-None-clause-after
returns-in-None-clause-after c = no_row c.end_row.result (c.args.address + 1) c.end_row.new.row.items c.end_row.ensures.none

pub returns-in-Some-clause-text : goal.returns-in-Some-clause-text
returns-in-Some-clause-text c =
    some_result c.take_byte.result c.args.form c.args.address c.in-Some.byte c.args.cell c.args.row.now.items c.take_byte.new.row.items
    c.args.out.now.items c.take_byte.new.out.items c.in-Some.is c.take_byte.ensures.text
