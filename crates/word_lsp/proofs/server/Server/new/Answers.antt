use Rattle.std.proofs.Common.{List, None, ap, map}
use Rattle.word_lsp.specs.State.{State, document_view}
use Rattle.word_lsp.specs.declared.documents.Document.{Document}
use Rattle.word_lsp.specs.declared.phase.Phase.TheVariants.{Fresh}
use Rattle.word_lsp.proofs.server.Server.new.Goals as goal

abbrev fresh : List Document → State
fresh ds = record { phase = Fresh; chosen = None; documents = map document_view ds }

pub returns : goal.returns
returns c = ap fresh c.new.ensures.items
