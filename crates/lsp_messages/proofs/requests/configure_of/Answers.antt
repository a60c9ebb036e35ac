use Rattle.std.proofs.Common.{ap}
use Rattle.lsp_messages.specs.Requests.{configures}
use Rattle.lsp_messages.proofs.requests.configure_of.Goals as goal

pub returns : goal.returns
returns c = ap configures c.told_settings-settings.ensures
