use Rattle.std.proofs.Common.{◌∙◌, Option, ap, sym}
use Rattle.dap_messages.proofs.Shown.{item_as}
use Rattle.dap_views.specs.Rows.{row_in, row_on}
use Rattle.dap_views.specs.declared.source.FilePath.{FilePath}
use Rattle.dap_views.proofs.rows.row_on.Goals as goal

pub returns-in-Some : goal.returns-in-Some
returns-in-Some c = λ b t is_b is_t.
    let source = c.args.source.now in
    item_as _ _ _ (ap (λ (file : Option FilePath). row_in source.counting c.args.address b t file c.in-Some.row.line) c.file_at-file.ensures
    ∙ ap (row_on source.files.now source.counting c.args.address b t) (sym c.in-Some.is)) (c.row_in.ensures b t is_b is_t)

pub returns-in-None : goal.returns-in-None
returns-in-None c = λ b t is_b is_t.
    item_as _ _ _ (ap (row_on c.args.source.now.files.now c.args.source.now.counting c.args.address b t) (sym c.in-None.is))
    (c.instruction_row.ensures b t is_b is_t)
