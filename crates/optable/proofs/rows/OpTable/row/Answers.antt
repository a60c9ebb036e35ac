use Rattle.optable.proofs.Table.{cycles_at, len_at}
use Rattle.optable.proofs.rows.OpTable.row.Goals as goal

pub returns : goal.returns
returns c =
    let is = c.row_in.ensures in
    record {
      row = is;
      small = cycles_at c.args.self.profile c.args.opcode c.ranges.opcode.fits _ is;
      len =
          len_at c.args.self.profile c.args.opcode c.ranges.opcode.fits _ is;
    }
