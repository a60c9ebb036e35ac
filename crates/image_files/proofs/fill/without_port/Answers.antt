use Rattle.std.proofs.Common.{arith, ℕ, Option, None, if◌then◌else◌}
use Rattle.image_files.proofs.Filled.{none_at_port}
use Rattle.image_files.proofs.Unions.{all_of, none_yet, one_more}
use Rattle.image_files.proofs.fill.without_port.Goals as goal
use Rattle.image_writer.proofs.Parts.{part_size, size_kept}
use Rattle.model.specs.Image.{cell_at}
use Rattle.model.specs.State.{is_port}

pub loop-address-init : goal.loop-address-init
loop-address-init c = record {
  size = part_size c.in-Ok.part c.in-Ok.ensures.empty;
  each = none_yet (λ (j : ℕ). if is_port c.args.map.now j then None else cell_at c.args.image.now j) c.in-Ok.part c.in-Ok.ensures.empty;
}

pub loop-address-preserved : goal.loop-address-preserved
loop-address-preserved c = record {
  size = size_kept c.loop-address.part c.put_cell.new.both c.loop-address.address c.kept_cell.result c.put_cell.ensures c.loop-address.invariant.size;
  each = one_more (λ (j : ℕ). if is_port c.args.map.now j then None else cell_at c.args.image.now j) c.loop-address.address c.kept_cell.result
      c.loop-address.part c.put_cell.new.both
      (omega (arith, c.loop-address-test.true)) c.loop-address.invariant.size c.kept_cell.ensures c.put_cell.ensures c.loop-address.invariant.each;
}

pub returns-clause-without : goal.returns-clause-without
returns-clause-without c = λ k below. all_of (λ (j : ℕ). if is_port c.args.map.now j then None else cell_at c.args.image.now j) c.loop-address.address
    k c.loop-address.part
    (omega (arith, below, c.loop-address-test.false)) c.loop-address.invariant.each

pub returns-clause-spared : goal.returns-clause-spared
returns-clause-spared c = none_at_port c.args.map.now c.args.image.now c.loop-address.part c.loop-address.invariant.size
    (λ k below. all_of (λ (j : ℕ). if is_port c.args.map.now j then None else cell_at c.args.image.now j) c.loop-address.address k c.loop-address.part
    (omega (arith, below, c.loop-address-test.false)) c.loop-address.invariant.each)
