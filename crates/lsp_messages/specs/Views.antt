-- Requests without where their texts lie in memory.
use Rattle.std.specs.Option.{option_map}
use Rattle.lsp_messages.specs.Requests.{RequestView, initialize, configures, shutdown, exit, opens, changes, closes, asks, searches, prepares, renames, invalid, unknown, no_method}
use Rattle.lsp_messages.specs.Settings.{settings_view}
use Rattle.lsp_messages.specs.declared.asked.Request.{Request}
use Rattle.lsp_messages.specs.declared.asked.Request.TheVariants as requests
use Rattle.serde_json.specs.View.{items_view}

abbrev pub request_view : Request → RequestView
request_view (requests.Initialize client settings)
    = initialize client (option_map settings_view settings)
request_view (requests.Configure settings) = configures (option_map settings_view settings)
request_view requests.Shutdown = shutdown
request_view requests.Exit = exit
request_view (requests.Open uri text) = opens uri.now text.now
request_view (requests.Change uri given)
    = changes uri.now (option_map (λ vs. items_view vs.now) given)
request_view (requests.Close uri) = closes uri.now
request_view (requests.Question uri question) = asks uri.now question
request_view (requests.Search query) = searches query.now
request_view (requests.Prepare uri line character) = prepares uri.now line character
request_view (requests.Rename uri line character name) = renames uri.now line character name.now
request_view requests.Invalid = invalid
request_view requests.Unknown = unknown
request_view requests.NoMethod = no_method
