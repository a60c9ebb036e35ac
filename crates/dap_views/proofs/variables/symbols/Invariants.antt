use Rattle.std.proofs.Common.{[], map, take}
use Rattle.dap_messages.specs.declared.request.Page.{Page}
use Rattle.dap_views.proofs.Symbols.{symbol_shown}
use Rattle.dap_views.specs.Pages.{IsPage}
use Rattle.dap_views.proofs.variables.symbols.Given as goal

abbrev pub invariant-loop-name : goal.invariant-loop-name
invariant-loop-name l = (asked : Page) → IsPage asked [] l.initial.page
    → IsPage asked (map (symbol_shown l.session.current.bus.memory) (take l.name-index l.names)) l.page
