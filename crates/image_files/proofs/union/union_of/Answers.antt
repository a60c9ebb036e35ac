use Rattle.std.proofs.Common.{arith, ℕ, Option, ◌∙◌, ap₂}
use Rattle.image_files.specs.Union.{joined_cell}
use Rattle.image_files.proofs.Unions.{all_of, none_yet, one_more}
use Rattle.image_files.proofs.union.union_of.Goals as goal
use Rattle.image_writer.proofs.Parts.{part_size, size_kept}
use Rattle.model.specs.Image.{cell_at}

pub loop-address-init : goal.loop-address-init
loop-address-init c = record {
  size = part_size c.in-Ok.both c.in-Ok.ensures.empty;
  each = none_yet (λ (j : ℕ). joined_cell (cell_at c.args.one.now j) (cell_at c.args.other.now j)) c.in-Ok.both c.in-Ok.ensures.empty;
}

pub loop-address-preserved : goal.loop-address-preserved
loop-address-preserved c = record {
  size = size_kept c.loop-address.both c.put_cell.new.both c.loop-address.address c.joined_cell.result c.put_cell.ensures c.loop-address.invariant.size;
  each = one_more (λ (j : ℕ). joined_cell (cell_at c.args.one.now j) (cell_at c.args.other.now j)) c.loop-address.address c.joined_cell.result
      c.loop-address.both c.put_cell.new.both
      (omega (arith, c.loop-address-test.true)) c.loop-address.invariant.size
      (c.joined_cell.ensures ∙ ap₂ joined_cell c.get.ensures c.get-in-loop-address.ensures) c.put_cell.ensures c.loop-address.invariant.each;
}

pub returns : goal.returns
returns c = λ k below. all_of (λ (j : ℕ). joined_cell (cell_at c.args.one.now j) (cell_at c.args.other.now j)) c.loop-address.address k c.loop-address.both
    (omega (arith, below, c.loop-address-test.false)) c.loop-address.invariant.each
