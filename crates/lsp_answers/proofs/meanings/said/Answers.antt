use Rattle.lsp_answers.proofs.meanings.said.Goals as goal

pub returns-then-markdown : goal.returns-then-markdown
returns-then-markdown c text r words range = rw (c.if-markdown.true) (c.hover.ensures _ r (c.text_of-words.ensures _ (c.words_marked.ensures text words)) range)

pub returns-else-markdown : goal.returns-else-markdown
returns-else-markdown c text r words range = rw (c.if-markdown.false) (c.hover-else-markdown.ensures _ r (c.text_of.ensures text words) range)
