use Rattle.std.proofs.Common.{◌∙◌, ap₂}
use Rattle.lsp_messages.specs.Settings.{setting_by}
use Rattle.lsp_messages.proofs.settings.setting_of.Goals as goal

pub returns : goal.returns
returns c = c.setting_by.ensures ∙ ap₂ setting_by c.is_null.ensures c.as_str.ensures
