use Rattle.std.proofs.Common.{List, ℕ, ◌++◌, sym, ap, ◌∙◌}
use Rattle.std.specs.List.{flat_map}
use Rattle.source_forms.specs.Rows.{ended, opened}
use Rattle.source_forms.specs.Labels.{labelled}
use Rattle.source_forms.specs.Pieces.{text_of}
use Rattle.source_writer.specs.Views.{piece_view}
use Rattle.source_writer.proofs.LabelledGoing.{lines_piece}
use Rattle.source_writer.proofs.labelled.push_at.Goals as goal

pub returns-clause-text : goal.returns-clause-text
returns-clause-text c n =
    let p = piece_view c.piece_at-piece.result in
    lines_piece c.args.profile c.args.cells.now c.args.marks.now c.args.flags.now c.args.table.now n c.args.place.names c.args.place.address
    c.in-Some.byte c.len.result c.left_after.result c.args.place.ends c.is_named-named.result p c.args.out.now.items
    c.push_piece.new.out.items (sym c.cell_at.ensures.same ∙ c.in-Some.is) c.piece_at-piece.ensures.exact c.is_named-named.ensures
    (c.in_ok-push_piece.ensures
    ∙ ap (λ (x : List ℕ). x ++ ended (text_of c.args.profile c.args.table.now c.args.place.address p))
    (c.in_ok-push_label_line.ensures ∙ ap (λ (x : List ℕ). x ++ flat_map ended (labelled c.is_named-named.result c.args.place.address))
    c.in_ok-push_opening.ensures))
    c.len.ensures c.left_after.ensures.exact
