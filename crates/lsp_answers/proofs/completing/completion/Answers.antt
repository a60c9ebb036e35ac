use Rattle.lsp_answers.proofs.completing.completion.Goals as goal

pub returns-in-Ok : goal.returns-in-Ok
returns-in-Ok c = rw (c.in-Operation.is) (c.build.ensures _ (c.with_directives.ensures _ (c.with_mnemonics.ensures _ c.in-Ok.ensures)))

pub returns-in-Ok-names_at : goal.returns-in-Ok-names_at
returns-in-Ok-names_at c = rw (c.in-Operand.is) (c.build-in-Ok-names_at.ensures _ c.in-Ok-names_at.ensures)

pub returns-in-Comment : goal.returns-in-Comment
returns-in-Comment c = rw (c.in-Comment.is) (c.build-in-Comment.ensures _ c.new.ensures)
