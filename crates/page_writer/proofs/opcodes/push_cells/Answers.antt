use Rattle.std.proofs.Common.{◌∙◌, ◌++◌, List, ℕ, ap}
use Rattle.page_writer.specs.Facts.{cell_of, opcode_cells}
use Rattle.page_writer.proofs.Cells.{cells_more, no_cells}
use Rattle.page_writer.proofs.opcodes.push_cells.Goals as goal

pub loop-opcode-init : goal.loop-opcode-init
loop-opcode-init c = no_cells c.args.profile c.args.text.now.items

pub loop-opcode-preserved : goal.loop-opcode-preserved
loop-opcode-preserved c =
    let n = c.loop-opcode.opcode in
    let front = c.args.text.now.items in
    c.in_ok-extend_from_slice.ensures.items
    ∙ ap (λ (l : List ℕ). l ++ c.cell_of.result) c.loop-opcode.invariant
    ∙ ap (λ (l : List ℕ). (front ++ opcode_cells c.args.profile n) ++ l) (c.cell_of.ensures ∙ ap cell_of c.decode_in.ensures.row)
    ∙ cells_more c.args.profile n front
