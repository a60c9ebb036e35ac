use Rattle.lsp_answers.proofs.completing.item_of.Goals as goal

pub returns : goal.returns
returns c told detailed = c.item.ensures _ _ _ c.from_utf8_lossy-label.ensures.lossy (c.text_of-detail.ensures told detailed)
    (c.text_of-place.ensures _ c.place_words.ensures)
