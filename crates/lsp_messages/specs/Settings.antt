-- The settings of an editor in a message: the member `mos65` of its settings, with members `port`
-- and `profile`. Source: Language Server Protocol 3.17, "Initialize Request" (`initializationOptions`),
-- "DidChangeConfiguration Notification"; which settings there are, mos65.
use Rattle.std.specs.Prelude.{ℕ, Bool, if◌then◌else◌, is_some, List, codes, Option, Some, None}
use Rattle.std.specs.Option.{option_map}
use Rattle.lsp_messages.specs.declared.asked.Setting.{Setting}
use Rattle.lsp_messages.specs.declared.asked.Setting.TheVariants as held
use Rattle.lsp_messages.specs.declared.asked.Settings.{Settings}
use Rattle.serde_json.specs.Data.{Data}
use Rattle.serde_json.specs.Find.{as_null, as_str, pointer}

-- A value is not set, or to a text, or to what is no text.
pub data SettingView : Type 0 where
  unset : SettingView
  set_to : List ℕ → SettingView
  no_text : SettingView

pub record SettingsView : Type 0 where
  pub port : SettingView
  pub profile : SettingView

-- ---- a setting: `null` and what is not there set nothing

abbrev pub text_setting : Option (List ℕ) → SettingView
text_setting None = no_text
text_setting (Some text) = set_to text

abbrev pub setting_by : Bool → Option (List ℕ) → SettingView
setting_by is_null text = if is_null then unset else text_setting text

abbrev pub setting_of : Data → SettingView
setting_of value = setting_by (is_some (as_null value)) (as_str value)

abbrev pub setting_at : Option Data → SettingView
setting_at None = unset
setting_at (Some value) = setting_of value

abbrev pub setting_in : List ℕ → Data → SettingView
setting_in path section = setting_at (pointer path section)

-- ---- the settings of a message, if it has a section of them

abbrev pub settings_of : Data → SettingsView
settings_of section = record {
  port = setting_in (codes "/port") section;
  profile = setting_in (codes "/profile") section;
}

abbrev pub settings_at : Option Data → Option SettingsView
settings_at section = option_map settings_of section

abbrev pub first_of : Option Data → Option Data → Option Data
first_of (Some section) other = Some section
first_of None other = other

-- Editors begin with the settings that they tell later, with their member `mos65` alone, or with what
-- that has.
abbrev pub section_at_start : Data → Option Data
section_at_start message = first_of
    (pointer (codes "/params/initializationOptions/settings/mos65") message)
    (first_of (pointer (codes "/params/initializationOptions/mos65") message)
    (pointer (codes "/params/initializationOptions") message))

abbrev pub begun_with : Data → Option SettingsView
begun_with message = settings_at (section_at_start message)

abbrev pub told_settings : Data → Option SettingsView
told_settings message = settings_at (pointer (codes "/params/settings/mos65") message)

-- ---- without where the texts lie in memory

abbrev pub setting_view : Setting → SettingView
setting_view held.Unset = unset
setting_view (held.Text text) = set_to text.now
setting_view held.NoText = no_text

abbrev pub settings_view : Settings → SettingsView
settings_view s = record { port = setting_view s.port; profile = setting_view s.profile }
