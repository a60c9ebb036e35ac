use Rattle.lsp_hints.proofs.folds.fold_data.Goals as goal

pub returns-in-Label : goal.returns-in-Label
returns-in-Label c = rw c.in-Label.is (c.build.ensures _ (c.count-in-Label.ensures _ (c.count.ensures _ c.new.ensures)))

pub returns-in-Comment : goal.returns-in-Comment
returns-in-Comment c = rw c.in-Comment.is (c.build-in-Comment.ensures _
    (c.count-in-Comment-2.ensures _ (c.word.ensures _ (c.count-in-Comment.ensures _ c.new-in-Comment.ensures))))
