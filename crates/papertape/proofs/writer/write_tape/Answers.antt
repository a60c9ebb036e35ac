use Rattle.std.proofs.Common.{◌∙◌, arith, subst, sym, ap}
use Rattle.model.specs.Image.{IsImage}
use Rattle.model.specs.Tape.{TapeDenotes}
use Rattle.model.specs.TapeText.{tape_text}
use Rattle.papertape.proofs.Written.{cuts_count, written_denotes}
use Rattle.papertape.proofs.Texts.{text_done}
use Rattle.papertape.proofs.writer.write_tape.Goals as goal

pub overflow_add-count : goal.overflow_add-count
overflow_add-count c =
    let image = subst IsImage (sym c.cells-cells.ensures.same) c.cells-cells.ensures.image in
    omega (arith, c.loop-piece.invariant.count, cuts_count c.cells-cells.result.now image.size)

pub overflow_cast-count : goal.overflow_cast-count
overflow_cast-count c =
    let image = subst IsImage (sym c.cells-cells.ensures.same) c.cells-cells.ensures.image in
    omega (arith, c.loop-piece.invariant.count, cuts_count c.cells-cells.result.now image.size)

pub returns-clause-text : goal.returns-clause-text
returns-clause-text c =
    text_done c.cells-cells.result.now c.loop-piece.out.items c.write_record.new.out.items c.loop-piece.from c.loop-piece.count c.in_default.ensures
    c.loop-piece.invariant.text c.loop-piece.invariant.count c.in_ok-write_record.ensures
    ∙ ap tape_text c.cells-cells.ensures.same

pub returns-clause-denotes : goal.returns-clause-denotes
returns-clause-denotes c =
    let text =
    text_done c.cells-cells.result.now c.loop-piece.out.items c.write_record.new.out.items c.loop-piece.from c.loop-piece.count c.in_default.ensures
    c.loop-piece.invariant.text c.loop-piece.invariant.count c.in_ok-write_record.ensures
    ∙ ap tape_text c.cells-cells.ensures.same in
    subst (λ t. TapeDenotes t c.args.image.now) (sym text) (written_denotes c.args.image.now c.cells-cells.ensures.image)
