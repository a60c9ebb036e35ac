-- The map that sources are read on: what an editor sets, and what the words of the command line ask
-- for where it sets nothing. Source: Language Server Protocol 3.17, "DidChangeConfiguration
-- Notification"; mos65.
use Rattle.std.specs.Prelude.{ℕ, Bool, false, is_none, if◌then◌else◌, Option, Some, None, unwrap_or}
use Rattle.arguments.specs.Values.{port_of, profile_of}
use Rattle.lsp_messages.specs.Requests.{RequestView, initialize, configures}
use Rattle.lsp_messages.specs.Settings.{SettingView, SettingsView, unset, set_to, no_text}
use Rattle.model.specs.State.{Map, is_map}
use Rattle.model.specs.declared.instruction.Profile.{Profile}
use Rattle.word_lsp.specs.declared.phase.Phase.{Phase}
use Rattle.word_lsp.specs.declared.phase.Phase.TheVariants.{Fresh, Running, ShutDown}

-- ---- the map of some settings, over that of the words; nothing where a value is wrong

abbrev pub port_by : ℕ → SettingView → Option ℕ
port_by port unset = Some port
port_by port (set_to text) = port_of text
port_by port no_text = None

abbrev pub profile_by : Profile → SettingView → Option Profile
profile_by profile unset = Some profile
profile_by profile (set_to text) = profile_of text
profile_by profile no_text = None

abbrev pub map_at : ℕ → Profile → Option Map
map_at port profile = if is_map None port
    then Some (record { profile = profile; rom = None; port = port }) else None

abbrev pub map_by : Option ℕ → Option Profile → Option Map
map_by (Some port) (Some profile) = map_at port profile
map_by port profile = None

abbrev pub chosen_map : Map → SettingsView → Option Map
chosen_map words s = map_by (port_by words.port s.port) (profile_by words.profile s.profile)

-- Some settings have a wrong value.
abbrev pub is_wrong : Map → Option SettingsView → Bool
is_wrong words None = false
is_wrong words (Some s) = is_none (chosen_map words s)

-- ---- the map that an editor has chosen, if it has

-- Where a value is wrong the one before stays.
abbrev pub or_before : Option Map → Option Map → Option Map
or_before (Some bus_map) before = Some bus_map
or_before None before = before

abbrev pub chosen_after : Map → Option Map → Option SettingsView → Option Map
chosen_after words before None = before
chosen_after words before (Some s) = or_before (chosen_map words s) before

-- What an editor sets with which it begins, and what while the server is in use.
abbrev pub settings_begun : RequestView → Option SettingsView
settings_begun (initialize client settings) = settings
settings_begun request = None

abbrev pub settings_told : RequestView → Option SettingsView
settings_told (configures settings) = settings
settings_told request = None

-- By a request, and by a notice.
abbrev pub settings_asked : Phase → RequestView → Option SettingsView
settings_asked Fresh request = settings_begun request
settings_asked (Running client) request = None
settings_asked ShutDown request = None

abbrev pub settings_noted : Phase → RequestView → Option SettingsView
settings_noted Fresh request = None
settings_noted (Running client) request = settings_told request
settings_noted ShutDown request = None

-- ---- the map in use

abbrev pub map_in : Map → Option Map → Map
map_in words chosen = unwrap_or chosen words
