use Rattle.std.proofs.Common.{refl, arith}
use Rattle.line_parts.specs.LineViews.{item_view}
use Rattle.model.specs.Bytes.{item_piece}
use Rattle.model.specs.SourceLine.{Item}
use Rattle.model.specs.Names.{number_in}
use Rattle.emission.proofs.Gathers.{gathered_step, gathered_end}
use Rattle.emission.proofs.emit.LineBytes.add_items.Goals as goal

pub loop-item-preserved : goal.loop-item-preserved
loop-item-preserved c =
    gathered_step (λ (i : Item). item_piece (number_in c.args.names.now) c.args.here i) item_view c.args.items.now c.loop-item.item-index c.item-item.result
    c.loop-item.self c.add_item.new.self (item_piece (number_in c.args.names.now) c.args.here (item_view c.item-item.result)) _ c.loop-item-test.true
    c.item-item.is c.in_ok-add_item.ensures
    refl c.loop-item.invariant

pub returns : goal.returns
returns c =
    gathered_end (λ (i : Item). item_piece (number_in c.args.names.now) c.args.here i) item_view c.args.items.now c.loop-item.item-index
    c.loop-item.self _ (omega arith) c.loop-item.invariant
