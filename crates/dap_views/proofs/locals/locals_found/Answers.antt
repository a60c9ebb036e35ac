use Rattle.std.proofs.Common.{ap, map}
use Rattle.dap_views.specs.Locals.{seen_local}
use Rattle.dap_views.proofs.locals.locals_found.Goals as goal

pub returns-in-Some : goal.returns-in-Some
returns-in-Some c = rw c.in-Some.is c.locals_by.ensures

pub returns-in-None : goal.returns-in-None
returns-in-None c = rw c.in-None.is (ap (map seen_local) c.new.ensures.items)
