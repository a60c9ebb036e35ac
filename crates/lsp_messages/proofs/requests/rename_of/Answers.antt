use Rattle.lsp_messages.proofs.requests.rename_of.Goals as goal

pub returns : goal.returns
returns c = rw (← c.in-Some.ensures, ← c.in-Some-number_at.ensures, ← c.in-Some-number_at-2.ensures, ← c.in-Some-text_at.ensures)
