-- The bytes at names, one after another.
use Rattle.std.proofs.Common.{◌≡◌, ℕ, List, map, sym}
use Rattle.std.proofs.lemmas.Simd.{map-map}
use Rattle.std.specs.Prelude.{slice_index}
use Rattle.std.specs.Str.Lossy.{utf8_lossy}
use Rattle.dap_messages.specs.SeenAnswers.{SeenItem}
use Rattle.dap_views.specs.Scopes.{symbols_shown}
use Rattle.dap_views.specs.Variables.{byte_variable}
use Rattle.source_map.specs.Names.{Named, named}
use Rattle.source_map.specs.declared.names.Name.{Name}

abbrev pub symbol_shown : List ℕ → Name → SeenItem
symbol_shown memory name = byte_variable (utf8_lossy name.text.items) name.address (slice_index memory name.address)

pub symbols_of : (memory : List ℕ) (names : List Name) → map (symbol_shown memory) names ≡ symbols_shown memory (map named names)
symbols_of memory names = sym (map-map (λ (n : Named). byte_variable (utf8_lossy n.text) n.address (slice_index memory n.address)) named names)
