use Rattle.std.proofs.Common.{◌≡◌, ◌*◌, ◌-◌, length, take, arith}
use Rattle.std.proofs.lemmas.Grind.{common_steps}
use Rattle.model.specs.Listing.{group_row, with_spaces}
use Rattle.listing.proofs.Columns.{without_padding}
use Rattle.listing.proofs.rows.push_group.Goals as goal

pub returns-clause-rows : goal.returns-clause-rows
returns-clause-rows c =
    let width : c.saturating_sub-width.result ≡ 3 * length c.args.bytes.now - 1 = omega arith in
    let cut : take c.saturating_sub-width.result c.byte_columns.result ≡ with_spaces c.args.bytes.now =
    without_padding c.args.bytes.now c.byte_columns.result c.saturating_sub-width.result c.requires c.byte_columns.ensures width in
    let row : c.row_text-row.result.items ≡ group_row c.args.address c.args.bytes.now = rw (← cut) c.row_text-row.ensures in
    grind (arith, common_steps, row)
