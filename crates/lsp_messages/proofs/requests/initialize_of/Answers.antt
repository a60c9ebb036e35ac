use Rattle.std.proofs.Common.{ap₂}
use Rattle.lsp_messages.specs.Requests.{initialize}
use Rattle.lsp_messages.proofs.requests.initialize_of.Goals as goal

pub returns : goal.returns
returns c = ap₂ initialize c.client_of-client.ensures c.begun_with-settings.ensures
