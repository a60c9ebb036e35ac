use Rattle.lsp_messages.proofs.requests.prepare_of.Goals as goal

pub returns : goal.returns
returns c = rw (← c.in-Some.ensures, ← c.in-Some-number_at.ensures, ← c.in-Some-number_at-2.ensures)
