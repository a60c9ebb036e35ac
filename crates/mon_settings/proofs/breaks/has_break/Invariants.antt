use Rattle.std.proofs.Common.{◌≡◌, nat_eq, drop}
use Rattle.std.specs.List.{list_any}
use Rattle.mon_settings.proofs.breaks.has_break.Given as goal

abbrev pub invariant-loop-index : goal.invariant-loop-index
invariant-loop-index l = list_any (nat_eq l.address) l.session.breaks
    ≡ list_any (nat_eq l.address) (drop l.index l.session.breaks)
