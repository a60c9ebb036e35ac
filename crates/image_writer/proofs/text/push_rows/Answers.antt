use Rattle.std.proofs.Common.{arith, ◌+◌, ◌++◌, None, refl, [], List, Option, ℕ}
use Rattle.image_writer.specs.Rows.{rows}
use Rattle.image_writer.proofs.Going.{cell_done, cells_done, texts}
use Rattle.image_writer.proofs.text.push_rows.Goals as goal

pub loop-address-preserved : goal.loop-address-preserved
loop-address-preserved c =
    let cells = c.args.cells.now in
    let i = c.loop-address.address in record {
      text = cell_done c.args.form cells i _ None c.loop-address.row.items c.take_cell.new.row.items c.loop-address.out.items c.take_cell.new.out.items
          (c.args.out.now.items ++ texts c.args.form (rows 0 [] cells)) (omega (arith, c.requires, c.loop-address-test.true)) refl
          c.in_ok-take_cell.ensures.text c.loop-address.invariant.text;
      few = c.in_ok-take_cell.ensures.few;
      after = c.in_ok-take_cell.ensures.after;
    }

pub returns : goal.returns
returns c =
    cells_done c.end_row.result c.args.form c.args.cells.now c.loop-address.row.items c.loop-address.out.items c.end_row.new.out.items
    (c.args.out.now.items ++ texts c.args.form (rows 0 [] c.args.cells.now)) c.loop-address.address 65536 (omega arith) (omega (arith, c.requires))
    c.loop-address.invariant.text c.end_row.ensures.text
