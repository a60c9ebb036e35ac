use Rattle.std.proofs.Common.{◌≡◌, nat_eq, drop}
use Rattle.std.specs.List.{list_any}
use Rattle.mon_steps.proofs.back.is_at_break.Given as goal

abbrev pub invariant-loop-index : goal.invariant-loop-index
invariant-loop-index l = list_any (nat_eq l.pc) l.mon.session.breaks
    ≡ list_any (nat_eq l.pc) (drop l.index l.mon.session.breaks)
