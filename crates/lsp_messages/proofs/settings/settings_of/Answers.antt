use Rattle.std.proofs.Common.{ap₂}
use Rattle.lsp_messages.specs.Settings.{SettingView, SettingsView}
use Rattle.lsp_messages.proofs.settings.settings_of.Goals as goal

abbrev both : SettingView → SettingView → SettingsView
both port profile = record { port = port; profile = profile }

pub returns : goal.returns
returns c = ap₂ both c.setting_in-port.ensures c.setting_in-profile.ensures
