use Rattle.std.proofs.Common.{Some, ap}
use Rattle.word_lsp.proofs.settings.map_at.Goals as goal

pub returns-in-Ok : goal.returns-in-Ok
returns-in-Ok c = rw (c.in-Ok.ensures.is_map) (ap Some c.in-Ok.ensures.map)
