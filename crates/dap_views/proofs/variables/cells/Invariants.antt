use Rattle.std.proofs.Common.{[], ◌≤◌, ◌-◌}
use Rattle.dap_messages.specs.declared.request.Page.{Page}
use Rattle.dap_views.specs.Pages.{IsPage}
use Rattle.dap_views.specs.Scopes.{cells}
use Rattle.dap_views.proofs.variables.cells.Given as goal

abbrev pub invariant-loop-address : goal.invariant-loop-address
invariant-loop-address l = record {
  cells : (asked : Page) → IsPage asked [] l.initial.page → IsPage asked (cells l.session.current.bus.memory l.from (l.address - l.from)) l.page;
  behind : l.from ≤ l.address;
  within : l.address - l.from ≤ l.to - l.from;
}
