use Rattle.std.proofs.Common.{◌∙◌, sym, ap}
use Rattle.fault_notes.specs.Marks.{first_before, is_reserved}
use Rattle.fault_notes.proofs.Marked.{third_found}
use Rattle.fault_notes.proofs.note.reserved_token.Goals as goal

pub returns : goal.returns
returns c =
    c.reserved_among-3.ensures
    ∙ third_found (is_reserved c.args.profile) c.first_before.result.now c.first_before-2.result.now c.operand_of.result.now _ _ _
    c.first_before.ensures (c.first_before-2.ensures ∙ ap (first_before 61) c.after_label.ensures) c.operand_of.ensures (sym c.in_default.ensures)
    (sym c.in_default-reserved_among.ensures)
